-- What a manager answers to a pump and to a packet is never want of memory or a fault of its disk.
use Rattle.std.proofs.Common.{◌==◌, ◌&&◌, Bool, true, false, cond, List, [], ◌∷◌, length, not, Option, None, Some, Result, Ok, Err, ℕ, subst}
use Rattle.std.specs.Option.{option_map_or}
use Rattle.std.specs.Prelude.{slice_get}
use Rattle.std.specs.List.{list_any}
use Rattle.mqb_base.specs.declared.heads.TxHead.{TxHead}
use Rattle.mqb_base.specs.declared.heard.Heard.{Heard}
use Rattle.mqb_base.specs.declared.heard.Heard.TheVariants as heard
use Rattle.mqb_base.specs.declared.ids.Guid.{Guid}
use Rattle.mqb_base.specs.declared.ids.Identity.{Identity}
use Rattle.mqb_base.specs.declared.message.Message.{Message}
use Rattle.mqb_fate.specs.Asking.{is_ordinary}
use Rattle.mqb_fate.specs.declared.orders.OrderAck.{OrderAck}
use Rattle.mqb_orders.specs.Judging.{verdict_of}
use Rattle.mqb_orders.specs.declared.judging.Verdict.{Verdict}
use Rattle.mqb_orders.specs.declared.judging.Verdict.TheVariants as verdict
use Rattle.mqb_packet.specs.declared.packet.Packet.{Packet}
use Rattle.mqb_packet.specs.declared.packet.Packet.TheVariants as packet
use Rattle.mqb_packet.specs.declared.packet.UserPacket.{UserPacket}
use Rattle.mqb_plain.specs.Plain.{PlainLists}
use Rattle.mqb_session.specs.Phases.{owed_by}
use Rattle.mqb_session.specs.Sending.{is_ready, is_spent, stamped}
use Rattle.mqb_session.specs.State as one_end
use Rattle.mqb_session.specs.declared.heads.HeadHeard.{HeadHeard}
use Rattle.mqb_session.specs.declared.heads.HeadHeard.TheVariants as head
use Rattle.mqb_session.specs.declared.heads.Kind.TheVariants as kind
use Rattle.mqb_setup.specs.declared.internal.Internal.{Internal}
use Rattle.mqb_model.specs.calls.hear.Hear.{hear, hear_acknowledgement, hear_behind, hear_linked, hear_user, listening}
use Rattle.mqb_model.specs.calls.hear.Plain.{hear_arriving, hear_express, hear_final, hear_message, hear_plain, hear_recoverable, hear_stored}
use Rattle.mqb_model.specs.calls.hear.Session.{HeardOutcome, Listening, ack_heard, discarded, heard_as, peer_heard, user_heard}
use Rattle.mqb_model.specs.calls.hear.Streams.{acknowledged_in, duplicate_heard, has_sequence, hear_duplicate, hear_in_stream, hear_order_ack, index_for, judged, order_acked, owing, raises}
use Rattle.mqb_model.specs.calls.pump.Candidates.{Candidate, candidates}
use Rattle.mqb_model.specs.calls.pump.Choosing.{chosen}
use Rattle.mqb_model.specs.calls.pump.Pump.{PumpOutcome, pump, pump_at, pump_linked, pump_owed, pump_ready, pump_to, sending_ack, sending_chosen, sending_one}
use Rattle.mqb_model.specs.declared.faults.HearFault.{HearFault}
use Rattle.mqb_model.specs.declared.faults.HearFault.TheVariants as hear_fault
use Rattle.mqb_model.specs.declared.faults.PumpFault.{PumpFault}
use Rattle.mqb_model.specs.declared.faults.PumpFault.TheVariants as pump_fault
use Rattle.mqb_model.specs.managers.Manager.{Manager, is_down, linked_peer}
use Rattle.mqb_model.specs.managers.Outcomes.{Outcome, answering, unless}
use Rattle.mqb_serving.specs.EndLaws.{AnswersAreNoFaults}
use Rattle.mqb_model.specs.records.Finals.{is_final}
use Rattle.mqb_model.specs.records.Record.{Nothing}
use Rattle.mqb_model.specs.rules.Arrivals.{refusal_of}
use Rattle.mqb_model.specs.state.Places.{is_express}
use Rattle.mqb_model.specs.state.Resolving.{is_for_order_layer}
use Rattle.mqb_model.specs.state.Rows.{in_row}

-- An outcome whose answer has a property.

module _ {V E : Type 0} (P : Result V E → Type 0) where
  either : (b : Bool) (x y : Outcome (Result V E)) → P x.answer → P y.answer → P (cond b x y).answer
  either true x y left right = left
  either false x y left right = right

  or_else : {X : Type 0} (f : X → Outcome (Result V E)) (o : Option X) (other : Outcome (Result V E)) → ((x : X) → P (f x).answer) → P other.answer → P (option_map_or f o other).answer
  or_else f None other some none = none
  or_else f (Some x) other some none = some x

-- Pumps.

abbrev pub IsPumpAnswer : Result ℕ PumpFault → Type 0
IsPumpAnswer (Ok count) = Unit {0}
IsPumpAnswer (Err pump_fault.Down) = Unit {0}
IsPumpAnswer (Err pump_fault.NotLinked) = Unit {0}
IsPumpAnswer (Err pump_fault.Spent) = Unit {0}
IsPumpAnswer (Err pump_fault.Memory) = ⊥
IsPumpAnswer (Err pump_fault.DiskFault) = ⊥

ack_pumped : (m : Manager) (s : one_end.State) → IsPumpAnswer (sending_ack m s).answer
ack_pumped m s = either IsPumpAnswer s.owes (sending_one m (packet.Ack (stamped kind.Ack s).0) (stamped kind.Ack s).1) (answering m (Ok 0)) tt tt

chosen_pumped : (m : Manager) (now k : ℕ) (s : one_end.State) (to : Guid) (cs : List Candidate) → IsPumpAnswer (sending_chosen m now s k to cs).answer
chosen_pumped m now k s to [] = ack_pumped m s
chosen_pumped m now k s to (c ∷ cs) = tt

to_pumped : (m : Manager) (now k : ℕ) (s : one_end.State) (peer : Identity) (p : PlainLists) → IsPumpAnswer (pump_to m now s k peer p).answer
to_pumped m now k s peer p = let cs = candidates m.state m.rest now k peer p in
    either IsPumpAnswer (is_spent s && not (length cs == 0)) (answering m (Err pump_fault.Spent)) (sending_chosen m now s k peer.guid (chosen s 0 0 cs)) tt
    (chosen_pumped m now k s peer.guid (chosen s 0 0 cs))

at_pumped : (m : Manager) (now k : ℕ) (s : one_end.State) → IsPumpAnswer (pump_at m now s k).answer
at_pumped m now k s = or_else IsPumpAnswer (λ peer. option_map_or (pump_to m now s k peer) (slice_get m.state.plain k) (answering m (Ok 0))) (slice_get m.state.peers k) (answering m (Ok 0))
    (λ peer. or_else IsPumpAnswer (pump_to m now s k peer) (slice_get m.state.plain k) (answering m (Ok 0)) (to_pumped m now k s peer) tt) tt

ready_pumped : (m : Manager) (now : ℕ) (s : one_end.State) → IsPumpAnswer (pump_ready m now s).answer
ready_pumped m now s = either IsPumpAnswer (is_ready s.phase) (pump_at m now s (linked_peer m.state s)) (answering m (Ok 0)) (at_pumped m now (linked_peer m.state s) s) tt

owed_pumped : (m : Manager) (now : ℕ) (s : one_end.State) (owed : Option Internal) → IsPumpAnswer (pump_owed m now s owed).answer
owed_pumped m now s (Some owed) = tt
owed_pumped m now s None = ready_pumped m now s

refusal_pumped : (m : Manager) (down : Bool) (o : PumpOutcome) → IsPumpAnswer o.answer → IsPumpAnswer (unless m (cond down (Some pump_fault.Down) None) o).answer
refusal_pumped m true o p = tt
refusal_pumped m false o p = p

pub is_pump_answer : (m : Manager) (now : ℕ) → IsPumpAnswer (pump m now).answer
is_pump_answer m now = refusal_pumped m (is_down m) (option_map_or (pump_linked m now) m.rest.session (answering m (Err pump_fault.NotLinked)))
    (or_else IsPumpAnswer (pump_linked m now) m.rest.session (answering m (Err pump_fault.NotLinked)) (λ s. owed_pumped m now s (owed_by s.phase now s)) tt)

-- Packets that are heard.

abbrev pub IsHearAnswer : {V : Type 0} → Result V HearFault → Type 0
IsHearAnswer (Ok heard) = Unit {0}
IsHearAnswer (Err hear_fault.Down) = Unit {0}
IsHearAnswer (Err hear_fault.NotLinked) = Unit {0}
IsHearAnswer (Err hear_fault.Memory) = ⊥
IsHearAnswer (Err hear_fault.DiskFault) = ⊥

module _ (l : Listening) where
  duplicate_heard_so : (message : Message) (tx : TxHead) → IsHearAnswer (hear_duplicate l message tx).answer
  duplicate_heard_so message tx = either IsHearAnswer (has_sequence l.manager.state message tx) (owing (index_for l.manager.state message) (duplicate_heard l tx)) (duplicate_heard l tx) tt tt

  judged_so : (p : UserPacket) (tx : TxHead) (verdict : Verdict) → IsHearAnswer (judged l p tx verdict).answer
  judged_so p tx verdict.Duplicate = duplicate_heard_so p.message tx
  judged_so p tx verdict = tt

  stream_so : (p : UserPacket) (tx : TxHead) → IsHearAnswer (hear_in_stream l p tx).answer
  stream_so p tx = let found = verdict_of (in_row l.manager.state p.message) tx in
      either IsHearAnswer (is_ordinary p.message) (judged l p tx found) (discarded l) (judged_so p tx found) tt

  ack_so : (ack : OrderAck) → IsHearAnswer (hear_order_ack l ack).answer
  ack_so ack = either IsHearAnswer (list_any (raises (peer_heard l) ack) l.manager.state.outs) (order_acked l ack) (heard_as l Nothing heard.OldAck) tt tt

  express_so : (p : UserPacket) → IsHearAnswer (hear_express l p).answer
  express_so p = either IsHearAnswer (is_for_order_layer l.manager.state p.message.destination) (discarded l) (hear_arriving l p.message (refusal_of l.manager.state p)) tt tt

  recoverable_so : (p : UserPacket) → IsHearAnswer (hear_recoverable l p).answer
  recoverable_so p = either IsHearAnswer (is_final l.manager.state p.message) (hear_final l p) (hear_stored l p) tt tt

  message_so : (in_order : Bool) (p : UserPacket) → IsHearAnswer (hear_message l in_order p).answer
  message_so true p = either IsHearAnswer (is_express p.message.delivery) (hear_express l p) (hear_recoverable l p) (express_so p) (recoverable_so p)
  message_so false p = tt

  user_so : (in_order : Bool) (p : UserPacket) → IsHearAnswer (hear_user l in_order p).answer
  user_so in_order p = or_else IsHearAnswer (hear_in_stream l p) p.tx (hear_plain l in_order p) (stream_so p)
      (or_else IsHearAnswer (hear_order_ack l) (acknowledged_in l.manager.state p.message) (hear_message l in_order p) ack_so (message_so in_order p))

behind_so : (m : Manager) (now : ℕ) (p : UserPacket) (h : HeadHeard) (s : one_end.State) → IsHearAnswer (hear_behind m now p h s).answer
behind_so m now p (head.Closed why) s = tt
behind_so m now p head.InOrder s = user_so (listening m s now) true p
behind_so m now p head.OutOfOrder s = user_so (listening m s now) false p
behind_so m now p head.AckOnly s = user_so (listening m s now) false p

acknowledgement_so : (m : Manager) (now : ℕ) (h : HeadHeard) (s : one_end.State) → IsHearAnswer (hear_acknowledgement m now h s).answer
acknowledgement_so m now (head.Closed why) s = tt
acknowledgement_so m now h s = tt

linked_so : (m : Manager) (now : ℕ) (p : Packet) (s : one_end.State) → IsHearAnswer (hear_linked m now p s).answer
linked_so m now (packet.Establish e) s = tt
linked_so m now (packet.Parameters p) s = tt
linked_so m now (packet.Ack h) s = let given = ack_heard h s in acknowledgement_so m now given.0 given.1
linked_so m now (packet.User p) s = let given = user_heard m.state s p in behind_so m now p given.0 given.1

refusal_so : (m : Manager) (down : Bool) (o : HeardOutcome) → IsHearAnswer o.answer → IsHearAnswer (unless m (cond down (Some hear_fault.Down) None) o).answer
refusal_so m true o p = tt
refusal_so m false o p = p

pub is_hear_answer : (m : Manager) (p : Packet) (now : ℕ) → IsHearAnswer (hear m p now).answer
is_hear_answer m p now = refusal_so m (is_down m) (option_map_or (hear_linked m now p) m.rest.session (answering m (Err hear_fault.NotLinked)))
    (or_else IsHearAnswer (hear_linked m now p) m.rest.session (answering m (Err hear_fault.NotLinked)) (linked_so m now p) tt)

pub no_faults : AnswersAreNoFaults
no_faults m = record {
  pump_wants = λ now is. subst IsPumpAnswer is (is_pump_answer m now);
  pump_fails = λ now is. subst IsPumpAnswer is (is_pump_answer m now);
  hear_wants = λ p now is. subst (λ (r : Result Heard HearFault). IsHearAnswer r) is (is_hear_answer m p now);
  hear_fails = λ p now is. subst (λ (r : Result Heard HearFault). IsHearAnswer r) is (is_hear_answer m p now);
}
