-- A store decides the same whatever express messages and marks stand beside it, and what is done
-- beside a record leaves it.
use Rattle.std.specs.Prelude.{◌≡◌, List, false, fold, true, ℕ}
use Rattle.mqb_base.specs.declared.class.Class.{Class}
use Rattle.mqb_base.specs.declared.heads.TxHead.{TxHead}
use Rattle.mqb_base.specs.declared.ids.Identity.{Identity}
use Rattle.mqb_base.specs.declared.ids.MessageId.{MessageId}
use Rattle.mqb_base.specs.declared.message.Lane.TheVariants as lane
use Rattle.mqb_base.specs.declared.message.Message.{Message}
use Rattle.mqb_base.specs.declared.queues.EntryPlace.{EntryPlace}
use Rattle.mqb_base.specs.declared.queues.QueuePlan.{QueuePlan}
use Rattle.mqb_entries.specs.declared.members.Mark.{Mark}
use Rattle.mqb_packet.specs.declared.packet.UserPacket.{UserPacket}
use Rattle.mqb_packet.specs.declared.packet.Packet.{Packet}
use Rattle.mqb_model.specs.calls.AddPeer.{add_peer}
use Rattle.mqb_model.specs.calls.Call.{Request, requested}
use Rattle.mqb_model.specs.calls.Link.{link, resend, unlink}
use Rattle.mqb_model.specs.calls.hear.Hear.{IsReadable, hear}
use Rattle.mqb_model.specs.calls.pump.Pump.{pump}
use Rattle.mqb_model.specs.declared.answers.Role.{Role}
use Rattle.mqb_model.specs.laws.Fitting.{IsDraftedSend}
use Rattle.mqb_model.specs.managers.Manager.{Manager}
use Rattle.mqb_model.specs.managers.Outcomes.{Outcome, recorded, state_after}
use Rattle.mqb_model.specs.managers.Valid.{IsValidManager}
use Rattle.mqb_model.specs.records.Applying.{effect_of, fits}
use Rattle.mqb_model.specs.records.Decisions.{message_decided, message_stored}
use Rattle.mqb_model.specs.records.Offered.{offered_effect}
use Rattle.mqb_model.specs.records.Peer.{with_new_queue, with_peer}
use Rattle.mqb_model.specs.records.Plain.{plain_effect}
use Rattle.mqb_model.specs.records.Record.{Record}
use Rattle.mqb_model.specs.records.Releases.{message_released}
use Rattle.mqb_model.specs.rules.Effects.{Effect, begun}
use Rattle.mqb_model.specs.rules.Notices.{meets}
use Rattle.mqb_model.specs.rules.Purges.{purged}
use Rattle.mqb_model.specs.rules.Sends.{message_sent}
use Rattle.mqb_model.specs.rules.Takes.{taken}
use Rattle.mqb_model.specs.rules.Timeouts.{lane_ticked, rows_expired}
use Rattle.mqb_model.specs.state.Durable.{durable}
use Rattle.mqb_model.specs.state.Places.{is_express}
use Rattle.mqb_model.specs.state.State.{State}
use Rattle.mqb_model.specs.state.Valid.{IsValidState}

-- What follows when a durable message meets a class reads and changes nothing but
-- what a store stands for.
abbrev pub MeetsDurably : Type 0
MeetsDurably = (s : State) (m : Message) (class : Class) (now : ℕ) → is_express m.delivery ≡ false
    → meets (durable s) m class now ≡ durable (meets s m class now)

-- an effect on what a store stands for
abbrev pub durable_effect : Effect → Effect
durable_effect e = record { state = durable e.state; lines = e.lines }

-- The steps of records that send, release, decide and store do to what a store stands for what they
-- do to the state, with the same lines.
pub record StepsAreDurable : Type 0 where
  pub peer_added : (s : State) (peer : Identity)
      → begun (with_peer (durable s) peer) ≡ durable_effect (begun (with_peer s peer))
  pub queue_made : (s : State) (given : QueuePlan)
      → begun (with_new_queue (durable s) given) ≡ durable_effect (begun (with_new_queue s given))
  pub marks_offered : (s : State) (marks : List Mark)
      → offered_effect (durable s) marks ≡ durable_effect (offered_effect s marks)
  pub plain : (s : State) (now : ℕ) (p : UserPacket) → is_express p.message.delivery ≡ false
      → plain_effect (durable s) now p ≡ durable_effect (plain_effect s now p)
  pub sent : (now : ℕ) (s : State) (m : Message) → is_express m.delivery ≡ false
      → message_sent now (durable s) m ≡ durable_effect (message_sent now s m)
  pub released : (e : Effect) (numbers : List ℕ)
      → fold message_released (durable_effect e) numbers
      ≡ durable_effect (fold message_released e numbers)
  pub decided : (now : ℕ) (s : State) (p : UserPacket) (tx : TxHead)
      → is_express p.message.delivery ≡ false
      → message_decided now (durable s) p tx ≡ durable_effect (message_decided now s p tx)
  pub stored : (now : ℕ) (s : State) (p : UserPacket) → is_express p.message.delivery ≡ false
      → message_stored now (durable s) p ≡ durable_effect (message_stored now s p)

-- Takes, purges and ticks of durable messages do so on valid states.
pub record LeavingIsDurable : Type 0 where
  pub takes : (at : EntryPlace) (id : MessageId) (now : ℕ) (s : State) → IsValidState s
      → taken at id now (begun (durable s)) ≡ durable_effect (taken at id now (begun s))
  pub purges : (at : EntryPlace) (now : ℕ) (s : State) → IsValidState s
      → purged lane.Durable at now (begun (durable s))
      ≡ durable_effect (purged lane.Durable at now (begun s))
  pub ticks : (now : ℕ) (s : State) → IsValidState s
      → lane_ticked lane.Durable now (rows_expired now (begun (durable s)))
      ≡ durable_effect (lane_ticked lane.Durable now (rows_expired now (begun s)))

-- A record that fits a valid state does to what a store stands for what it does to the state,
-- with the same lines.
abbrev pub DurableIsApplied : Type 0
DurableIsApplied = (s : State) (r : Record) → IsValidState s → fits s r ≡ true
    → effect_of (durable s) r ≡ durable_effect (effect_of s r)

-- It fits the one exactly where it fits the other.
abbrev pub DurableIsFitted : Type 0
DurableIsFitted = (s : State) (r : Record) → IsValidState s → fits (durable s) r ≡ fits s r

-- Beside its record a call leaves what the store stands for.
abbrev pub LeavesStore : {A : Type 0} → Manager → Outcome A → Type 0
LeavesStore m outcome = durable (state_after m outcome) ≡ durable (recorded m.state outcome.entry)

-- Each call of a manager does.
pub record EachLeavesStore (m : Manager) : Type 0 where
  pub peers : (peer : Identity) → LeavesStore m (add_peer m peer)
  pub requests : (given : Request) → IsDraftedSend given → LeavesStore m (requested m given)
  pub links : (end : Role) (window : ℕ) → LeavesStore m (link m end window)
  pub unlinks : LeavesStore m (unlink m)
  pub resends : LeavesStore m (resend m)
  pub hears : (p : Packet) (now : ℕ) → IsReadable p → LeavesStore m (hear m p now)
  pub pumps : (now : ℕ) → LeavesStore m (pump m now)

-- each of a valid one
abbrev pub CallsLeaveStore : Type 0
CallsLeaveStore = (m : Manager) → IsValidManager m → EachLeavesStore m
