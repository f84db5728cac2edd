-- A record that a call makes fits, and has a spelling.
use Rattle.std.specs.Prelude.{◌≡◌, All, IfSome, None, true, ℕ}
use Rattle.mqb_base.specs.Drafts.{draft_fault}
use Rattle.mqb_base.specs.declared.draft.Op.{Op}
use Rattle.mqb_base.specs.declared.draft.Op.TheVariants as asked
use Rattle.mqb_base.specs.declared.draft.Parts.{Parts}
use Rattle.mqb_base.specs.declared.ids.Identity.{Identity}
use Rattle.mqb_packet.specs.mqb_names.Values.{IsName, IsQueueName}
use Rattle.mqb_packet.specs.declared.packet.Packet.{Packet}
use Rattle.mqb_model.specs.calls.AddPeer.{add_peer}
use Rattle.mqb_model.specs.calls.Call.{Commit, Request, Send, Set, requested}
use Rattle.mqb_model.specs.calls.hear.Hear.{IsReadable, hear}
use Rattle.mqb_model.specs.calls.pump.Pump.{pump}
use Rattle.mqb_model.specs.managers.Manager.{Manager}
use Rattle.mqb_model.specs.managers.Outcomes.{Outcome}
use Rattle.mqb_model.specs.managers.Valid.{IsValidManager}
use Rattle.mqb_model.specs.records.Applying.{fits, is_setting}
use Rattle.mqb_model.specs.records.Carrying.{IsRead}
use Rattle.mqb_model.specs.records.Counting.{IsSpellable}

-- what a sender chooses makes a message, and its names are names
pub record IsDrafted (p : Parts) : Type 0 where
  pub sound : draft_fault p ≡ None
  pub destination : IsQueueName p.destination
  pub admin : IfSome p.admin IsQueueName
  pub response : IfSome p.response IsQueueName

-- so does an op of a transaction
abbrev pub IsDraftedOp : Op → Type 0
IsDraftedOp (asked.Send p) = IsDrafted p
IsDraftedOp (asked.Take name) = Unit {0}

-- What the laws ask of a request: its setting is one,
abbrev pub IsSettable : Request → Type 0
IsSettable (Set setting) = is_setting setting ≡ true
IsSettable _ = Unit {0}

-- its message is drafted,
abbrev pub IsDraftedSend : Request → Type 0
IsDraftedSend (Send now recoverable p) = IsDrafted p
IsDraftedSend _ = Unit {0}

-- its ops or its message are,
abbrev pub HasDrafts : Request → Type 0
HasDrafts (Commit now ops) = All IsDraftedOp ops
HasDrafts given = IsDraftedSend given

-- and all of this
abbrev pub IsDraftedRequest : Request → Type 0
IsDraftedRequest (Set setting) = is_setting setting ≡ true
IsDraftedRequest given = HasDrafts given

-- the record of a call fits, where there is one
abbrev pub IsFitting : {A : Type 0} → Manager → Outcome A → Type 0
IsFitting m outcome = IfSome outcome.entry (λ r. fits m.state r ≡ true)

-- The records of all calls do: those of hear and pump where the manager is valid.
pub record RecordsOf (m : Manager) : Type 0 where
  pub peers : (peer : Identity) → IsFitting m (add_peer m peer)
  pub requests : (given : Request) → IsSettable given → IsFitting m (requested m given)
  pub hears : IsValidManager m → (p : Packet) (now : ℕ) → IsReadable p → IsFitting m (hear m p now)
  pub pumps : IsValidManager m → (now : ℕ) → IsFitting m (pump m now)

-- of every manager
abbrev pub RecordsFit : Type 0
RecordsFit = (m : Manager) → RecordsOf m

-- the record of a call has a spelling, where there is one
abbrev pub IsSpelled : {A : Type 0} → Outcome A → Type 0
IsSpelled outcome = IfSome outcome.entry IsSpellable

-- The records of all calls have.
pub record SpelledRecords (m : Manager) : Type 0 where
  pub peers : (peer : Identity) → IsSpelled (add_peer m peer)
  pub requests : (given : Request) → IsSettable given → IsSpelled (requested m given)
  pub hears : IsValidManager m → (p : Packet) (now : ℕ) → IsReadable p → IsSpelled (hear m p now)
  pub pumps : IsValidManager m → (now : ℕ) → IsSpelled (pump m now)

-- of every manager
abbrev pub RecordsAreSpelled : Type 0
RecordsAreSpelled = (m : Manager) → SpelledRecords m

-- the record of a call is as one that was read, where there is one
abbrev pub IsAsRead : {A : Type 0} → Outcome A → Type 0
IsAsRead outcome = IfSome outcome.entry IsRead

-- The records of all calls are.
pub record ReadRecords (m : Manager) : Type 0 where
  pub peers : (peer : Identity) → IsName peer.host → IsAsRead (add_peer m peer)
  pub requests : (given : Request) → HasDrafts given → IsAsRead (requested m given)
  pub hears : IsValidManager m → (p : Packet) (now : ℕ) → IsReadable p → IsAsRead (hear m p now)
  pub pumps : IsValidManager m → (now : ℕ) → IsAsRead (pump m now)

-- of every manager
abbrev pub RecordsAreRead : Type 0
RecordsAreRead = (m : Manager) → ReadRecords m

-- The packets that a valid manager pumps can be heard.
abbrev pub PumpedIsReadable : Type 0
PumpedIsReadable =
    (m : Manager) → IsValidManager m → (now : ℕ) → All IsReadable (pump m now).packets
