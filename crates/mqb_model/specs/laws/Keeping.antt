-- A valid state stays valid by a record that fits, and a valid manager by each call.
use Rattle.std.specs.Prelude.{◌≡◌, All, List, true, ℕ}
use Rattle.mqb_base.specs.declared.ids.Identity.{Identity}
use Rattle.mqb_base.specs.declared.ids.MessageId.{MessageId}
use Rattle.mqb_base.specs.declared.queues.EntryPlace.{EntryPlace}
use Rattle.mqb_base.specs.declared.queues.QueuePlan.{QueuePlan}
use Rattle.mqb_entries.specs.declared.members.Mark.{Mark}
use Rattle.mqb_packet.specs.mqb_names.Values.{IsName}
use Rattle.mqb_packet.specs.declared.packet.Packet.{Packet}
use Rattle.mqb_packet.specs.declared.packet.UserPacket.{UserPacket}
use Rattle.mqb_model.specs.calls.AddPeer.{add_peer}
use Rattle.mqb_model.specs.calls.Call.{Request, requested}
use Rattle.mqb_model.specs.calls.Link.{link}
use Rattle.mqb_model.specs.calls.hear.Hear.{IsReadable, hear}
use Rattle.mqb_model.specs.calls.pump.Pump.{pump}
use Rattle.mqb_model.specs.declared.answers.Role.{Role}
use Rattle.mqb_model.specs.laws.Fitting.{IsDraftedRequest}
use Rattle.mqb_model.specs.managers.Manager.{Manager}
use Rattle.mqb_model.specs.managers.Outcomes.{Outcome, failed, succeeded}
use Rattle.mqb_model.specs.managers.Restarts.{restarted}
use Rattle.mqb_model.specs.managers.Valid.{IsValidManager}
use Rattle.mqb_model.specs.records.Applying.{apply, fits}
use Rattle.mqb_model.specs.records.Carrying.{IsRead, IsRecorded, IsRecordedPart}
use Rattle.mqb_model.specs.records.Record as entry
use Rattle.mqb_model.specs.records.Commit.{sends_of}
use Rattle.mqb_model.specs.records.Record.{Part, Record, RecordOp}
use Rattle.mqb_model.specs.state.State.{State}
use Rattle.mqb_model.specs.state.Valid.{IsValidState}

-- It does where a peer joins, whose host is a name.
abbrev pub AddedPeerIsValid : Type 0
AddedPeerIsValid = (s : State) (peer : Identity) → IsValidState s → IsName peer.host
    → fits s (entry.Peer peer) ≡ true
    → IsValidState (apply s (entry.Peer peer))

-- It does where a queue joins.
abbrev pub MadeQueueIsValid : Type 0
MadeQueueIsValid = (s : State) (number : ℕ) (plan : QueuePlan) → IsValidState s
    → fits s (entry.CreateQueue number plan) ≡ true
    → IsValidState (apply s (entry.CreateQueue number plan))

-- It does where sequences were offered.
abbrev pub OfferedIsValid : Type 0
OfferedIsValid =
    (s : State) (marks : List Mark) → IsValidState s → fits s (entry.Offered marks) ≡ true
    → IsValidState (apply s (entry.Offered marks))

-- A valid manager for which a connection begins is valid, and so is one whose call is refused.
abbrev pub LinkedIsValid : Type 0
LinkedIsValid = (m : Manager) (end : Role) (window : ℕ) → IsValidManager m
    → IsValidManager (succeeded m (link m end window))

-- It does where a message is taken.
abbrev pub TakenIsValid : Type 0
TakenIsValid = (s : State) (now : ℕ) (at : EntryPlace) (id : MessageId) → IsValidState s
    → IsValidState (apply s (entry.Taken now at id))

-- It does where a place is purged.
abbrev pub PurgedIsValid : Type 0
PurgedIsValid = (s : State) (now : ℕ) (at : EntryPlace) → IsValidState s
    → IsValidState (apply s (entry.Purged now at))

-- It does where what is due leaves.
abbrev pub TickedIsValid : Type 0
TickedIsValid = (s : State) (now : ℕ) → IsValidState s → IsValidState (apply s (entry.Ticked now))

-- It does where a recoverable message is sent.
abbrev pub SentIsValid : Type 0
SentIsValid = (s : State) (now : ℕ) (p : UserPacket) → IsValidState s → IsRecorded p.message
    → fits s (entry.Plain now p) ≡ true
    → IsValidState (apply s (entry.Plain now p))

-- It does where messages are released and something arrives.
abbrev pub ArrivedIsValid : Type 0
ArrivedIsValid =
    (s : State) (now : ℕ) (numbers : List ℕ) (part : Part) → IsValidState s → IsRecordedPart part
    → fits s (entry.Arrived now numbers part) ≡ true
    → IsValidState (apply s (entry.Arrived now numbers part))

-- It does where a transaction is made.
abbrev pub CommitIsValid : Type 0
CommitIsValid = (s : State) (now : ℕ) (ops : List RecordOp) → IsValidState s
    → All IsRecorded (sends_of ops) → fits s (entry.Commit now ops) ≡ true
    → IsValidState (apply s (entry.Commit now ops))

-- A valid state stays valid by each record that was read and fits.
abbrev pub AppliedIsValid : Type 0
AppliedIsValid = (s : State) (r : Record) → IsValidState s → IsRead r → fits s r ≡ true
    → IsValidState (apply s r)

-- No record changes the identity of a manager.
abbrev pub RecordsKeepIdentities : Type 0
RecordsKeepIdentities = (s : State) (r : Record) → (apply s r).identity ≡ s.identity

-- A valid manager is valid again over a store that has the record in doubt.
abbrev pub KeptIsValid : Type 0
KeptIsValid = (m : Manager) → IsValidManager m → IsValidManager (restarted m true)

-- A manager is valid after a call, whether it goes well, is refused, or its disk fails.
pub record StaysValid {A : Type 0} (m : Manager) (outcome : Outcome A) : Type 0 where
  pub succeeds : IsValidManager (succeeded m outcome)
  pub fails : IsValidManager (failed m outcome)

-- It is after each call.
pub record EachKeepsValid (m : Manager) : Type 0 where
  pub peers : (peer : Identity) → IsName peer.host → StaysValid m (add_peer m peer)
  pub requests : (given : Request) → IsDraftedRequest given → StaysValid m (requested m given)
  pub hears : (p : Packet) (now : ℕ) → IsReadable p → StaysValid m (hear m p now)
  pub pumps : (now : ℕ) → StaysValid m (pump m now)

-- each valid one does
abbrev pub CallsKeepValid : Type 0
CallsKeepValid = (m : Manager) → IsValidManager m → EachKeepsValid m
