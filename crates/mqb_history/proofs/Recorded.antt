-- Which record each call makes, and what it sends or hears beside it.
use Rattle.std.proofs.Common.{refl}
use Rattle.std.specs.List.{list_any}
use Rattle.std.specs.Option.{option_map_or}
use Rattle.std.specs.Prelude.{[], ◌&&◌, ◌==◌, ◌∷◌, ◌≡◌, Bool, Err, IfSome, List, None, Ok, Option, Result, Some, cond, false, length, not, slice_get, true, unwrap_or, ℕ}
use Rattle.mqb_base.specs.Same.{same_guid}
use Rattle.mqb_base.specs.declared.heads.SessionHead.{SessionHead}
use Rattle.mqb_base.specs.declared.heads.TxHead.{TxHead}
use Rattle.mqb_base.specs.declared.heard.Cause.{Cause}
use Rattle.mqb_base.specs.declared.heard.Cause.TheVariants as cause
use Rattle.mqb_base.specs.declared.heard.Heard.{Heard}
use Rattle.mqb_base.specs.declared.heard.Heard.TheVariants as heard
use Rattle.mqb_base.specs.declared.ids.Guid.{Guid}
use Rattle.mqb_base.specs.declared.message.Message.{Message}
use Rattle.mqb_fate.specs.Asking.{is_ordinary}
use Rattle.mqb_fate.specs.Orders.{acked_by, is_final_class}
use Rattle.mqb_fate.specs.declared.orders.OrderAck.{OrderAck}
use Rattle.mqb_orders.specs.Judging.{verdict_of}
use Rattle.mqb_orders.specs.declared.judging.Verdict.{Verdict}
use Rattle.mqb_orders.specs.declared.judging.Verdict.TheVariants as verdict
use Rattle.mqb_packet.specs.declared.packet.Packet.{Packet}
use Rattle.mqb_packet.specs.declared.packet.Packet.TheVariants as packet
use Rattle.mqb_packet.specs.declared.packet.UserPacket.{UserPacket}
use Rattle.mqb_session.specs.Hearing.{acknowledged, closing, counted, head_in, is_bad_ack, order_of}
use Rattle.mqb_session.specs.Phases.{owed_by}
use Rattle.mqb_session.specs.Sending.{is_ready, is_spent}
use Rattle.mqb_session.specs.State as one_end
use Rattle.mqb_session.specs.declared.heads.HeadHeard.{HeadHeard}
use Rattle.mqb_session.specs.declared.heads.HeadHeard.TheVariants as head
use Rattle.mqb_session.specs.declared.phase.Phase.{Phase}
use Rattle.mqb_session.specs.declared.phase.Phase.TheVariants as phase
use Rattle.mqb_setup.specs.declared.internal.Internal.{Internal}
use Rattle.mqb_history.specs.Changes.{is_of_packets}
use Rattle.mqb_base.specs.declared.class.Class.{Class}
use Rattle.mqb_model.specs.calls.Call as calls
use Rattle.mqb_model.specs.calls.hear.Hear.{hear_acknowledgement, hear_behind, hear_linked, hear_refusal, hear_user, listening}
use Rattle.mqb_model.specs.calls.hear.Plain.{hear_arriving, hear_express, hear_final, hear_in_order, hear_message, hear_plain, hear_recoverable, hear_stored}
use Rattle.mqb_model.specs.calls.hear.Session.{HeardOutcome, Listening, ack_heard, discarded, heard_as, is_foreign, is_from, no_head, numbers_released, peer_heard, user_heard}
use Rattle.mqb_model.specs.calls.hear.Streams.{acknowledged_in, duplicate_heard, has_sequence, hear_in_stream, hear_order_ack, index_for, judged, may_acknowledge, order_acked, owing, raises}
use Rattle.mqb_model.specs.calls.pump.Candidates.{Candidate, candidates}
use Rattle.mqb_model.specs.calls.pump.Choosing.{chosen}
use Rattle.mqb_model.specs.calls.pump.Pump.{marks_for, pump_at, pump_linked, pump_owed, pump_refusal, pump_to, pump_with, sending_chosen}
use Rattle.mqb_model.specs.declared.faults.PumpFault.{PumpFault}
use Rattle.mqb_model.specs.declared.faults.PumpFault.TheVariants as pump_fault
use Rattle.mqb_model.specs.declared.faults.HearFault.TheVariants as hear_fault
use Rattle.mqb_model.specs.managers.Beside.{Beside}
use Rattle.mqb_model.specs.managers.Beside as beside
use Rattle.mqb_model.specs.managers.Manager.{Manager, linked_peer}
use Rattle.mqb_model.specs.managers.Outcomes.{Outcome, answering, unless}
use Rattle.mqb_model.specs.records.Commit.{sends_of}
use Rattle.mqb_model.specs.records.Finals.{is_final}
use Rattle.mqb_model.specs.records.Packets.{is_recoverable}
use Rattle.mqb_model.specs.records.Record.{Part, Record}
use Rattle.mqb_model.specs.records.Record as entry
use Rattle.mqb_model.specs.rules.Arrivals.{refusal_of}
use Rattle.mqb_model.specs.state.Places.{is_express}
use Rattle.mqb_model.specs.state.Resolving.{is_for_order_layer}
use Rattle.mqb_model.specs.state.Rows.{in_row}
use Rattle.mqb_model.specs.state.State.{State}
use Rattle.mqb_history.specs.Acked.{is_order_ack}
use Rattle.mqb_model.specs.calls.Call.{Answer, Asks, Call, Checkpoint, Hear, Pump, Request, Resend, answered, outcome_of, requested}
use Rattle.mqb_history.proofs.Lists.{clash, if_some, none_some, split_and}
use Rattle.mqb_history.proofs.Names.{same_guid_is}
use Rattle.mqb_history.proofs.Requests.{BesideFor, IsCommitOf, IsPlainOf, IsSentBeside, RecordFor, request_laws}

-- a plain packet
abbrev pub IsPlainPacket : UserPacket → Type 0
IsPlainPacket p = (p.tx ≡ None) × (is_express p.message.delivery ≡ false)

-- an order acknowledgement for a manager was heard, and acknowledges an ordinal up to a number
pub record IsAckHeard (own : Guid) (x : Packet) (ordinal number : ℕ) : Type 0 where
  pub given : UserPacket
  pub heard : x ≡ packet.User given
  pub to : given.to ≡ own
  pub plain : given.tx ≡ None
  pub kind : is_order_ack given.message ≡ true
  pub ack : OrderAck
  pub read : acked_by given.message.body ≡ Some ack
  pub ordinal_is : ordinal ≡ ack.sequence.ordinal
  pub number_is : number ≡ ack.number

-- the packet of a part was heard, and is for this manager
abbrev pub PartOf : Guid → Packet → Part → Type 0
PartOf own x entry.Nothing = Unit {0}
PartOf own x (entry.Decided p) = (x ≡ packet.User p) × (p.to ≡ own)
PartOf own x (entry.Stored p) = (x ≡ packet.User p) × (p.to ≡ own) × IsPlainPacket p
PartOf own x (entry.OrderAcknowledged ordinal number) = IsAckHeard own x ordinal number
PartOf own x (entry.Final p) = (x ≡ packet.User p) × (p.to ≡ own) × IsPlainPacket p × (is_final_class p.message.class ≡ true)

-- what is stored is no final acknowledgement
abbrev pub StoresNoFinal : State → Part → Type 0
StoresNoFinal s (entry.Stored p) = is_final s p.message ≡ false
StoresNoFinal s _ = Unit {0}

-- the call hears a packet, of which this is the part
pub record IsPartOf (s : State) (call : Call) (part : Part) : Type 0 where
  pub now : ℕ
  pub heard : Packet
  pub call_is : call ≡ Hear now heard
  pub part_is : PartOf s.identity.guid heard part
  pub no_final : StoresNoFinal s part

-- The record of a call is of its kind: nothing leaves a place or expires in one that has to do with packets.
abbrev pub RecordOf : State → Call → Record → Type 0
RecordOf s call (entry.Identity identity) = ⊥
RecordOf s call (entry.Peer peer) = ⊥
RecordOf s call (entry.Commit at made) = IsCommitOf call (sends_of made)
RecordOf s call (entry.Plain at p) = IsPlainOf s call p.message
RecordOf s call (entry.Arrived at numbers part) = IsPartOf s call part
RecordOf s call (entry.Taken at from id) = is_of_packets call ≡ false
RecordOf s call (entry.Purged at from) = is_of_packets call ≡ false
RecordOf s call (entry.Ticked at) = is_of_packets call ≡ false
RecordOf s call _ = Unit {0}

-- the call hears the packet of a message beside its record, which is refused as it says
pub record IsHeardBeside (s : State) (call : Call) (m : Message) (refusal : Option Class) : Type 0 where
  pub now : ℕ
  pub given : UserPacket
  pub call_is : call ≡ Hear now (packet.User given)
  pub message : given.message ≡ m
  pub express : is_express m.delivery ≡ true
  pub refusal_is : refusal ≡ refusal_of s given

-- an express message is sent by a call that sends it, and heard by one that hears its packet
abbrev pub BesideOf : State → Call → Beside → Type 0
BesideOf s call (beside.SendsExpress at m) = IsSentBeside s call m
BesideOf s call (beside.HearsExpress peer number at m refusal) = IsHeardBeside s call m refusal
BesideOf s call _ = Unit {0}

pub record IsOutcomeOf {A : Type 0} (s : State) (call : Call) (outcome : Outcome A) : Type 0 where
  pub entry : IfSome outcome.entry (RecordOf s call)
  pub beside : BesideOf s call outcome.beside

nothing_of : {A : Type 0} (m : Manager) (call : Call) (answer : A) → BesideOf m.state call beside.Nothing → IsOutcomeOf m.state call (answering m answer)
nothing_of m call answer h = record { entry = tt; beside = h }

unless_of : {V E : Type 0} (m : Manager) (call : Call) (refusal : Option E) (outcome : Outcome (Result V E)) → BesideOf m.state call beside.Nothing → IsOutcomeOf m.state call outcome → IsOutcomeOf m.state call (unless m refusal outcome)
unless_of m call (Some fault) outcome h g = nothing_of m call (Err fault) h
unless_of m call None outcome h g = g

or_of : {X A : Type 0} (s : State) (call : Call) (f : X → Outcome A) (o : Option X) (other : Outcome A) → ((x : X) → IsOutcomeOf s call (f x)) → IsOutcomeOf s call other → IsOutcomeOf s call (option_map_or f o other)
or_of s call f None other some none = none
or_of s call f (Some x) other some none = some x

either_of : {A : Type 0} (s : State) (call : Call) (b : Bool) (x y : Outcome A) → IsOutcomeOf s call x → IsOutcomeOf s call y → IsOutcomeOf s call (cond b x y)
either_of s call true x y left right = left
either_of s call false x y left right = right

some_unless : (s : State) (call : Call) (b : Bool) (r : Record) → RecordOf s call r → IfSome (cond b None (Some r)) (RecordOf s call)
some_unless s call true r h = tt
some_unless s call false r h = h

-- Requests.

request_record : (s : State) (given : Request) (r : Record) → RecordFor s given r → RecordOf s (Asks given) r
request_record s given (entry.Identity identity) h = absurd h
request_record s given (entry.Peer peer) h = absurd h
request_record s given (entry.Commit now ops) h = h.1
request_record s given (entry.Plain now p) h = h.1
request_record s given (entry.Arrived now numbers part) h = absurd h
request_record s given (entry.Taken now from id) h = refl
request_record s given (entry.Purged now from) h = refl
request_record s given (entry.Ticked now) h = refl
request_record s given r h = tt

request_beside : (s : State) (given : Request) (b : Beside) → BesideFor s given b → BesideOf s (Asks given) b
request_beside s given (beside.SendsExpress now m) h = h
request_beside s given (beside.HearsExpress peer number now m refusal) h = absurd h
request_beside s given b h = tt

-- Hearing.

abbrev HearsRightly : Packet → Listening → HeardOutcome → Type 0
HearsRightly x l outcome = IsOutcomeOf l.manager.state (Hear l.now x) outcome

-- a packet that is heard has a part
part_of : (s : State) (now : ℕ) (x : Packet) (part : Part) → PartOf s.identity.guid x part → StoresNoFinal s part → IsPartOf s (Hear now x) part
part_of s now x part h other = record { now = now; heard = x; call_is = refl; part_is = h; no_final = other }

heard_nothing : (x : Packet) (l : Listening) (answer : Heard) → HearsRightly x l (heard_as l entry.Nothing answer)
heard_nothing x l answer = record { entry = some_unless l.manager.state (Hear l.now x) (length (numbers_released l) == 0) (entry.Arrived l.now (numbers_released l) entry.Nothing) (part_of l.manager.state l.now x entry.Nothing tt tt); beside = tt }

owing_of : (x : Packet) (l : Listening) (k : ℕ) (outcome : HeardOutcome) → HearsRightly x l outcome → HearsRightly x l (owing k outcome)
owing_of x l k outcome h = record { entry = h.entry; beside = h.beside }

either_heard : (x : Packet) (l : Listening) (b : Bool) (p q : HeardOutcome) → HearsRightly x l p → HearsRightly x l q → HearsRightly x l (cond b p q)
either_heard x l b p q left right = either_of l.manager.state (Hear l.now x) b p q left right

-- a packet for this manager
module _ (p : UserPacket) (l : Listening) (own : p.to ≡ l.manager.state.identity.guid) where
  abbrev x : Packet
  x = packet.User p

  judged_of : (tx : TxHead) (found : Verdict) → HearsRightly x l (judged l p tx found)
  judged_of tx verdict.Next = record { entry = part_of l.manager.state l.now x (entry.Decided p) (refl, own) tt; beside = tt }
  judged_of tx verdict.Duplicate = either_heard x l (has_sequence l.manager.state p.message tx) (owing (index_for l.manager.state p.message) (duplicate_heard l tx)) (duplicate_heard l tx)
      (owing_of x l (index_for l.manager.state p.message) (duplicate_heard l tx) (heard_nothing x l (heard.Duplicate tx.sequence tx.number)))
      (heard_nothing x l (heard.Duplicate tx.sequence tx.number))
  judged_of tx verdict.Gap = heard_nothing x l (heard.Gap tx.sequence tx.number)
  judged_of tx verdict.Stale = heard_nothing x l (heard.Stale tx.sequence tx.number)

  stream_of : (tx : TxHead) → HearsRightly x l (hear_in_stream l p tx)
  stream_of tx = either_heard x l (is_ordinary p.message) (judged l p tx (verdict_of (in_row l.manager.state p.message) tx)) (discarded l)
      (judged_of tx (verdict_of (in_row l.manager.state p.message) tx)) (heard_nothing x l heard.Discarded)

  order_ack_of : p.tx ≡ None → (ack : OrderAck) → acknowledged_in l.manager.state p.message ≡ Some ack → HearsRightly x l (hear_order_ack l ack)
  order_ack_of none ack e = either_heard x l (list_any (raises (peer_heard l) ack) l.manager.state.outs) (order_acked l ack) (heard_as l entry.Nothing heard.OldAck)
      (record {
        entry = part_of l.manager.state l.now x (entry.OrderAcknowledged ack.sequence.ordinal ack.number)
            (record { given = p; heard = refl; to = own; plain = none; kind = tests.0; ack = ack; read = tests.1; ordinal_is = refl; number_is = refl }) tt;
        beside = tt;
      }) (heard_nothing x l heard.OldAck)
    where
      at : (b : Bool) → may_acknowledge l.manager.state p.message ≡ b → cond b (acked_by p.message.body) None ≡ Some ack → (is_order_ack p.message ≡ true) × (acked_by p.message.body ≡ Some ack)
      at true f g = ((split_and (is_order_ack p.message) (is_for_order_layer l.manager.state p.message.destination) f).0, g)
      at false f g = absurd (none_some g)

      tests : (is_order_ack p.message ≡ true) × (acked_by p.message.body ≡ Some ack)
      tests = at (may_acknowledge l.manager.state p.message) refl e

  in_order_of : p.tx ≡ None → HearsRightly x l (hear_in_order l p)
  in_order_of none = at (is_express p.message.delivery) refl
    where
      recoverable : is_express p.message.delivery ≡ false → (b : Bool) → is_final l.manager.state p.message ≡ b → HearsRightly x l (cond b (hear_final l p) (hear_stored l p))
      recoverable e true f = record { entry = part_of l.manager.state l.now x (entry.Final p) (refl, own, (none, e), final_class f) tt; beside = tt }
        where
          final_class : is_final l.manager.state p.message ≡ true → is_final_class p.message.class ≡ true
          final_class g = (split_and (is_recoverable p.message.delivery) (is_final_class p.message.class)
              (split_and (is_recoverable p.message.delivery && is_final_class p.message.class) (is_for_order_layer l.manager.state p.message.destination) g).0).1
      recoverable e false f = record { entry = part_of l.manager.state l.now x (entry.Stored p) (refl, own, (none, e)) f; beside = tt }

      at : (b : Bool) → is_express p.message.delivery ≡ b → HearsRightly x l (cond b (hear_express l p) (hear_recoverable l p))
      at true e = either_heard x l (is_for_order_layer l.manager.state p.message.destination) (discarded l) (hear_arriving l p.message (refusal_of l.manager.state p))
          (heard_nothing x l heard.Discarded)
          (record {
            entry = some_unless l.manager.state (Hear l.now x) (length (numbers_released l) == 0) (entry.Arrived l.now (numbers_released l) entry.Nothing) (part_of l.manager.state l.now x entry.Nothing tt tt);
            beside = record { now = l.now; given = p; call_is = refl; message = refl; express = e; refusal_is = refl };
          })
      at false e = recoverable e (is_final l.manager.state p.message) refl

  user_of : (in_order : Bool) → HearsRightly x l (hear_user l in_order p)
  user_of in_order = by p.tx refl
    where
      message : p.tx ≡ None → (b : Bool) → HearsRightly x l (hear_message l b p)
      message none true = in_order_of none
      message none false = heard_nothing x l heard.Discarded

      acks : p.tx ≡ None → (o : Option OrderAck) → acknowledged_in l.manager.state p.message ≡ o → HearsRightly x l (option_map_or (hear_order_ack l) o (hear_message l in_order p))
      acks none None e = message none in_order
      acks none (Some ack) e = order_ack_of none ack e

      by : (o : Option TxHead) → p.tx ≡ o → HearsRightly x l (option_map_or (hear_in_stream l p) o (hear_plain l in_order p))
      by None e = acks e (acknowledged_in l.manager.state p.message) refl
      by (Some tx) e = stream_of tx

closed_of : (m : Manager) (now : ℕ) (p : UserPacket) (why : Cause) (session : one_end.State) → IsOutcomeOf m.state (Hear now (packet.User p)) (hear_behind m now p (head.Closed why) session)
closed_of m now p why session = record { entry = tt; beside = tt }

behind_of : (m : Manager) (now : ℕ) (p : UserPacket) (session : one_end.State)
    → IsOutcomeOf m.state (Hear now (packet.User p)) (hear_behind m now p (user_heard m.state session p).0 (user_heard m.state session p).1)
behind_of m now p session = by session.phase (is_ready session.phase && is_foreign m.state session p) refl
  where
    h : SessionHead
    h = unwrap_or p.session no_head

    ordered : (given : HeadHeard) (after : one_end.State) → p.to ≡ m.state.identity.guid → IsOutcomeOf m.state (Hear now (packet.User p)) (hear_behind m now p given after)
    ordered (head.Closed why) after own = closed_of m now p why after
    ordered head.InOrder after own = user_of p (listening m after now) own true
    ordered head.OutOfOrder after own = user_of p (listening m after now) own false
    ordered head.AckOnly after own = user_of p (listening m after now) own false

    bad : (b : Bool) → p.to ≡ m.state.identity.guid → let given = cond b (closing cause.BadAck session) (order_of h session, counted (order_of h session) (acknowledged h session)) in
        IsOutcomeOf m.state (Hear now (packet.User p)) (hear_behind m now p given.0 given.1)
    bad true own = closed_of m now p cause.BadAck (closing cause.BadAck session).1
    bad false own = ordered (order_of h session) (counted (order_of h session) (acknowledged h session)) own

    own_of : is_foreign m.state session p ≡ false → p.to ≡ m.state.identity.guid
    own_of e = same_guid_is p.to m.state.identity.guid (split_and (is_from session p.message) (same_guid p.to m.state.identity.guid) (both (is_from session p.message && same_guid p.to m.state.identity.guid) e)).1
      where
        both : (b : Bool) → not b ≡ false → b ≡ true
        both true f = refl
        both false f = absurd (clash f)

    by : (f : Phase) (b : Bool) → (is_ready f && is_foreign m.state session p) ≡ b → let given = cond b (closing cause.Foreign session) (head_in f h session) in
        IsOutcomeOf m.state (Hear now (packet.User p)) (hear_behind m now p given.0 given.1)
    by f true e = closed_of m now p cause.Foreign (closing cause.Foreign session).1
    by phase.Ready false e = bad (is_bad_ack h session) (own_of e)
    by (phase.Closed why) false e = closed_of m now p why session
    by phase.Start false e = closed_of m now p cause.Early (closing cause.Early session).1
    by phase.WaitEstablish false e = closed_of m now p cause.Early (closing cause.Early session).1
    by phase.OweEstablish false e = closed_of m now p cause.Early (closing cause.Early session).1
    by phase.OweRefusal false e = closed_of m now p cause.Early (closing cause.Early session).1
    by phase.OweParameters false e = closed_of m now p cause.Early (closing cause.Early session).1
    by phase.WaitParameters false e = closed_of m now p cause.Early (closing cause.Early session).1

acknowledgement_of : (m : Manager) (now : ℕ) (x : Packet) (given : HeadHeard) (session : one_end.State) → IsOutcomeOf m.state (Hear now x) (hear_acknowledgement m now given session)
acknowledgement_of m now x (head.Closed why) session = record { entry = tt; beside = tt }
acknowledgement_of m now x given session = heard_nothing x (listening m session now) heard.Session

linked_of : (m : Manager) (now : ℕ) (x : Packet) (session : one_end.State) → IsOutcomeOf m.state (Hear now x) (hear_linked m now x session)
linked_of m now (packet.Establish e) session = record { entry = tt; beside = tt }
linked_of m now (packet.Parameters p) session = record { entry = tt; beside = tt }
linked_of m now (packet.Ack h) session = acknowledgement_of m now (packet.Ack h) (ack_heard h session).0 (ack_heard h session).1
linked_of m now (packet.User p) session = behind_of m now p session

-- Pumping.

chosen_of : (m : Manager) (now : ℕ) (session : one_end.State) (k : ℕ) (to : Guid) (cs : List Candidate) → IsOutcomeOf m.state (Pump now) (sending_chosen m now session k to cs)
chosen_of m now session k to [] = either_of m.state (Pump now) session.owes _ (answering m (Ok 0)) (record { entry = tt; beside = tt }) (nothing_of m (Pump now) (Ok 0) tt)
chosen_of m now session k to (c ∷ cs) = record {
  entry = some_unless m.state (Pump now) (length (marks_for m.state (c ∷ cs)) == 0) (entry.Offered (marks_for m.state (c ∷ cs))) tt;
  beside = tt;
}

pump_of : (m : Manager) (now : ℕ) (session : one_end.State) → IsOutcomeOf m.state (Pump now) (pump_linked m now session)
pump_of m now session = owed (owed_by session.phase now session)
  where
    none : IsOutcomeOf {A = Result ℕ PumpFault} m.state (Pump now) (answering m (Ok 0))
    none = nothing_of m (Pump now) (Ok 0) tt

    with_candidates : (k : ℕ) (to : Guid) (cs : List Candidate) → IsOutcomeOf m.state (Pump now) (pump_with m now session k to cs)
    with_candidates k to cs = either_of m.state (Pump now) (is_spent session && not (length cs == 0)) (answering m (Err pump_fault.Spent)) (sending_chosen m now session k to (chosen session 0 0 cs))
        (nothing_of m (Pump now) (Err pump_fault.Spent) tt) (chosen_of m now session k to (chosen session 0 0 cs))

    ready : (k : ℕ) → IsOutcomeOf m.state (Pump now) (pump_at m now session k)
    ready k = or_of m.state (Pump now) (λ peer. option_map_or (pump_to m now session k peer) (slice_get m.state.plain k) (answering m (Ok 0))) (slice_get m.state.peers k) (answering m (Ok 0))
        (λ peer. or_of m.state (Pump now) (pump_to m now session k peer) (slice_get m.state.plain k) (answering m (Ok 0))
        (λ p. with_candidates k peer.guid (candidates m.state m.rest now k peer p)) none) none

    owed : (o : Option Internal) → IsOutcomeOf m.state (Pump now) (pump_owed m now session o)
    owed None = either_of m.state (Pump now) (is_ready session.phase) (pump_at m now session (linked_peer m.state session)) (answering m (Ok 0)) (ready (linked_peer m.state session)) none
    owed (Some part) = record { entry = tt; beside = tt }

-- Each call.

same_of : {A : Type 0} (says : A → Answer) (s : State) (call : Call) (outcome : Outcome A) → IsOutcomeOf s call outcome → IsOutcomeOf s call (answered says outcome)
same_of says s call outcome h = record { entry = h.entry; beside = h.beside }

pub calls_are_of : (m : Manager) (call : Call) → IsOutcomeOf m.state call (outcome_of m call)
calls_are_of m (Asks given) = let h = request_laws m given in record {
  entry = if_some (RecordFor m.state given) (RecordOf m.state (Asks given)) (requested m given).entry (request_record m.state given) h.entry;
  beside = request_beside m.state given (requested m given).beside h.beside;
}
calls_are_of m Resend = record { entry = tt; beside = tt }
calls_are_of m Checkpoint = record { entry = tt; beside = tt }
calls_are_of m (Pump now) = same_of calls.Pumped m.state (Pump now) _ (unless_of m (Pump now) (pump_refusal m) _ tt
    (or_of m.state (Pump now) (pump_linked m now) m.rest.session _ (pump_of m now) (nothing_of m (Pump now) (Err pump_fault.NotLinked) tt)))
calls_are_of m (Hear now x) = same_of calls.Heard m.state (Hear now x) _ (unless_of m (Hear now x) (hear_refusal m) _ tt
    (or_of m.state (Hear now x) (hear_linked m now x) m.rest.session _ (linked_of m now x) (nothing_of m (Hear now x) (Err hear_fault.NotLinked) tt)))
