-- What each call of a manager keeps: whether it is linked, and who it is and who its peers are.
use Rattle.std.proofs.Common.{ap, refl, sym, ◌∙◌}
use Rattle.mqb_model.specs.calls.Call as calls
use Rattle.mqb_base.specs.declared.heads.TxHead.{TxHead}
use Rattle.mqb_base.specs.declared.heard.Heard.{Heard}
use Rattle.mqb_base.specs.declared.ids.Guid.{Guid}
use Rattle.mqb_base.specs.declared.ids.Identity.{Identity}
use Rattle.mqb_base.specs.declared.message.Message.{Message}
use Rattle.mqb_fate.specs.declared.orders.OrderAck.{OrderAck}
use Rattle.mqb_orders.specs.declared.judging.Verdict.{Verdict}
use Rattle.mqb_orders.specs.declared.judging.Verdict.TheVariants as verdict
use Rattle.mqb_packet.specs.declared.packet.Packet.{Packet}
use Rattle.mqb_packet.specs.declared.packet.Packet.TheVariants as packet
use Rattle.mqb_packet.specs.declared.packet.UserPacket.{UserPacket}
use Rattle.mqb_session.specs.State as one_end
use Rattle.mqb_session.specs.declared.heads.HeadHeard.{HeadHeard}
use Rattle.mqb_session.specs.declared.heads.HeadHeard.TheVariants as head
use Rattle.mqb_setup.specs.declared.internal.Internal.{Internal}
use Rattle.std.specs.List.{list_any}
use Rattle.std.specs.Option.{option_map_or}
use Rattle.std.specs.Prelude.{[], ◌&&◌, ◌==◌, ◌∷◌, ◌≡◌, Bool, Err, IfSome, List, None, Ok, Option, Result, Some, cond, false, is_some, length, not, slice_get, true, ℕ}
use Rattle.mqb_base.specs.declared.heard.Heard.TheVariants as heard
use Rattle.mqb_fate.specs.Asking.{is_ordinary}
use Rattle.mqb_orders.specs.Judging.{verdict_of}
use Rattle.mqb_session.specs.Phases.{owed_by}
use Rattle.mqb_session.specs.Sending.{is_ready, is_spent, stamped}
use Rattle.mqb_session.specs.declared.heads.Kind.TheVariants as kind
use Rattle.mqb_model.specs.calls.hear.Hear.{hear_acknowledgement, hear_behind, hear_linked, hear_refusal, hear_user, listening}
use Rattle.mqb_model.specs.calls.hear.Plain.{express_answer, hear_arriving, hear_express, hear_final, hear_in_order, hear_message, hear_plain, hear_recoverable, hear_stored}
use Rattle.mqb_model.specs.calls.hear.Session.{Listening, ack_heard, discarded, heard_as, numbers_released, peer_heard, user_heard}
use Rattle.mqb_model.specs.calls.hear.Streams.{acknowledged_in, duplicate_heard, has_sequence, hear_duplicate, hear_in_stream, hear_order_ack, index_for, judged, order_acked, owing, raises}
use Rattle.mqb_model.specs.calls.pump.Candidates.{Candidate, candidates}
use Rattle.mqb_model.specs.calls.pump.Choosing.{chosen}
use Rattle.mqb_model.specs.calls.pump.Pump.{marks_for, pump_at, pump_linked, pump_owed, pump_refusal, pump_to, pump_with, sending_ack, sending_chosen, sending_one}
use Rattle.mqb_model.specs.declared.faults.HearFault.TheVariants as hear_fault
use Rattle.mqb_model.specs.declared.faults.PumpFault.{PumpFault}
use Rattle.mqb_model.specs.declared.faults.PumpFault.TheVariants as pump_fault
use Rattle.mqb_model.specs.managers.Manager.{Manager, linked_peer}
use Rattle.mqb_model.specs.managers.Outcomes.{Outcome, answering, recorded, state_after, unless}
use Rattle.mqb_model.specs.records.Finals.{is_final}
use Rattle.mqb_model.specs.records.Record as entry
use Rattle.mqb_model.specs.records.Record.{Nothing, Record}
use Rattle.mqb_model.specs.rules.Arrivals.{refusal_of}
use Rattle.mqb_model.specs.state.Places.{is_express}
use Rattle.mqb_model.specs.state.Resolving.{is_for_order_layer}
use Rattle.mqb_model.specs.state.Rows.{in_row}
use Rattle.mqb_model.specs.calls.Link.{rewound}
use Rattle.mqb_model.specs.calls.Call.{Answer, Asks, Call, Checkpoint, Hear, Pump, Request, Resend, answered, outcome_of, requested}
use Rattle.mqb_history.specs.Made.{IsFrom, IsMade, IsOfRows}
use Rattle.mqb_history.proofs.Opening.{AreOfRows, candidates_open, chosen_all}
use Rattle.mqb_history.proofs.Applying.{beside_rows, recorded_manager}
use Rattle.mqb_history.proofs.Lists.{if_some}
use Rattle.mqb_history.proofs.Requests.{RecordFor, request_laws}
use Rattle.mqb_history.proofs.Staying.{IsSameManager, manager_then}
use Rattle.mqb_model.specs.state.State.{State}

-- a call leaves the session where there is one, and makes none where there is none, and its record is of no peer
pub record IsModest {A : Type 0} (heard_packet : Option Packet) (m : Manager) (outcome : Outcome A) : Type 0 where
  pub session : is_some outcome.rest.session ≡ is_some m.rest.session
  pub entry : IfSome outcome.entry (λ r. IsMade m.state r × IsFrom heard_packet r)

-- the same of a manager that is linked
pub record IsModestLinked {A : Type 0} (heard_packet : Option Packet) (s : State) (outcome : Outcome A) : Type 0 where
  pub session : is_some outcome.rest.session ≡ true
  pub entry : IfSome outcome.entry (λ r. IsMade s r × IsFrom heard_packet r)

unless_modest : {V E : Type 0} {a : Option Packet} (m : Manager) (refusal : Option E) (outcome : Outcome (Result V E)) → IsModest a m outcome → IsModest a m (unless m refusal outcome)
unless_modest m (Some fault) outcome h = record { session = refl; entry = tt }
unless_modest m None outcome h = h

or_linked : {X V E : Type 0} {a : Option Packet} (s : State) (f : X → Outcome (Result V E)) (o : Option X) (other : Outcome (Result V E))
    → ((x : X) → IsModestLinked a s (f x)) → IsModestLinked a s other → IsModestLinked a s (option_map_or f o other)
or_linked s f None other some none = none
or_linked s f (Some x) other some none = some x

found_linked : {X V E : Type 0} {a : Option Packet} (s : State) (f : X → Outcome (Result V E)) (o : Option X) (other : Outcome (Result V E))
    → ((x : X) → o ≡ Some x → IsModestLinked a s (f x)) → IsModestLinked a s other → IsModestLinked a s (option_map_or f o other)
found_linked s f None other some none = none
found_linked s f (Some x) other some none = some x refl

either : {V E : Type 0} {a : Option Packet} (s : State) (b : Bool) (x y : Outcome (Result V E)) → IsModestLinked a s x → IsModestLinked a s y → IsModestLinked a s (cond b x y)
either s true x y left right = left
either s false x y left right = right

-- a record, unless there is none
none_or : (a : Option Packet) (s : State) (b : Bool) (r : Record) → IsMade s r → IsFrom a r → IfSome (cond b None (Some r)) (λ r. IsMade s r × IsFrom a r)
none_or a s true r h g = tt
none_or a s false r h g = (h, g)

-- Requests, and a resend.

-- the record of a request is made, and decides nothing
request_made : (s : State) (given : Request) (r : Record) → RecordFor s given r → IsMade s r × IsFrom None r
request_made s given (entry.Peer peer) h = absurd h
request_made s given (entry.Commit now ops) h = (h.0, tt)
request_made s given (entry.Plain now p) h = (h.0, tt)
request_made s given (entry.Offered marks) h = absurd h
request_made s given (entry.Arrived now numbers part) h = absurd h
request_made s given r h = (tt, tt)

resend_modest : (m : Manager) → IsModest None m (outcome_of m Resend)
resend_modest m = record { session = at m.rest.session; entry = tt }
  where
    at : (o : Option one_end.State) → is_some (option_map_or (λ session. rewound m.state (linked_peer m.state session) m.rest) o m.rest).session ≡ is_some m.rest.session
    at None = refl
    at (Some session) = refl

-- Hearing.

heard_modest : (a : Option Packet) (l : Listening) (answer : Heard) → IsModestLinked a l.manager.state (heard_as l Nothing answer)
heard_modest a l answer = record {
  session = refl;
  entry = none_or a l.manager.state (length (numbers_released l) == 0) (entry.Arrived l.now (numbers_released l) entry.Nothing) tt tt;
}

owing_modest : (a : Option Packet) (k : ℕ) (l : Listening) (answer : Heard) → IsModestLinked a l.manager.state (owing k (heard_as l Nothing answer))
owing_modest a k l answer = record { session = refl; entry = (heard_modest a l answer).entry }

duplicate_modest : (a : Option Packet) (l : Listening) (message : Message) (tx : TxHead) → IsModestLinked a l.manager.state (hear_duplicate l message tx)
duplicate_modest a l message tx = either l.manager.state (has_sequence l.manager.state message tx)
    (owing (index_for l.manager.state message) (duplicate_heard l tx)) (duplicate_heard l tx)
    (owing_modest a (index_for l.manager.state message) l (heard.Duplicate tx.sequence tx.number)) (heard_modest a l (heard.Duplicate tx.sequence tx.number))

judged_modest : (l : Listening) (p : UserPacket) (tx : TxHead) (found : Verdict) → p.tx ≡ Some tx → verdict_of (in_row l.manager.state p.message) tx ≡ found
    → IsModestLinked (Some (packet.User p)) l.manager.state (judged l p tx found)
judged_modest l p tx verdict.Next e v = record { session = refl; entry = (record { head = tx; there = e; next = v }, refl) }
judged_modest l p tx verdict.Duplicate e v = duplicate_modest (Some (packet.User p)) l p.message tx
judged_modest l p tx verdict.Gap e v = heard_modest (Some (packet.User p)) l (heard.Gap tx.sequence tx.number)
judged_modest l p tx verdict.Stale e v = heard_modest (Some (packet.User p)) l (heard.Stale tx.sequence tx.number)

discarded_modest : (a : Option Packet) (l : Listening) → IsModestLinked a l.manager.state (discarded l)
discarded_modest a l = heard_modest a l heard.Discarded

stream_modest : (l : Listening) (p : UserPacket) (tx : TxHead) → p.tx ≡ Some tx → IsModestLinked (Some (packet.User p)) l.manager.state (hear_in_stream l p tx)
stream_modest l p tx e = let found = verdict_of (in_row l.manager.state p.message) tx in
    either l.manager.state (is_ordinary p.message) (judged l p tx found) (discarded l) (judged_modest l p tx found e refl) (discarded_modest (Some (packet.User p)) l)

ack_modest : (a : Option Packet) (l : Listening) (ack : OrderAck) → IsModestLinked a l.manager.state (hear_order_ack l ack)
ack_modest a l ack = either l.manager.state (list_any (raises (peer_heard l) ack) l.manager.state.outs) (order_acked l ack) (heard_as l Nothing heard.OldAck)
    (record { session = refl; entry = (tt, tt) }) (heard_modest a l heard.OldAck)

arriving_modest : (l : Listening) (p : UserPacket) → IsModestLinked (Some (packet.User p)) l.manager.state (hear_arriving l p.message (refusal_of l.manager.state p))
arriving_modest l p = record { session = refl; entry = (heard_modest (Some (packet.User p)) l (express_answer p.message (refusal_of l.manager.state p))).entry }

express_modest : (l : Listening) (p : UserPacket) → IsModestLinked (Some (packet.User p)) l.manager.state (hear_express l p)
express_modest l p = either l.manager.state (is_for_order_layer l.manager.state p.message.destination) (discarded l)
    (hear_arriving l p.message (refusal_of l.manager.state p)) (discarded_modest (Some (packet.User p)) l) (arriving_modest l p)

recoverable_modest : (l : Listening) (p : UserPacket) → IsModestLinked (Some (packet.User p)) l.manager.state (hear_recoverable l p)
recoverable_modest l p = either l.manager.state (is_final l.manager.state p.message) (hear_final l p) (hear_stored l p)
    (record { session = refl; entry = (tt, tt) }) (record { session = refl; entry = (tt, tt) })

in_order_modest : (l : Listening) (p : UserPacket) → IsModestLinked (Some (packet.User p)) l.manager.state (hear_in_order l p)
in_order_modest l p = either l.manager.state (is_express p.message.delivery) (hear_express l p) (hear_recoverable l p) (express_modest l p) (recoverable_modest l p)

message_modest : (l : Listening) (in_order : Bool) (p : UserPacket) → IsModestLinked (Some (packet.User p)) l.manager.state (hear_message l in_order p)
message_modest l true p = in_order_modest l p
message_modest l false p = discarded_modest (Some (packet.User p)) l

user_modest : (l : Listening) (in_order : Bool) (p : UserPacket) → IsModestLinked (Some (packet.User p)) l.manager.state (hear_user l in_order p)
user_modest l in_order p = found_linked l.manager.state (hear_in_stream l p) p.tx (hear_plain l in_order p) (stream_modest l p)
    (or_linked l.manager.state (hear_order_ack l) (acknowledged_in l.manager.state p.message) (hear_message l in_order p) (ack_modest (Some (packet.User p)) l) (message_modest l in_order p))

behind_modest : (m : Manager) (now : ℕ) (p : UserPacket) (given : HeadHeard) (session : one_end.State) → IsModestLinked (Some (packet.User p)) m.state (hear_behind m now p given session)
behind_modest m now p (head.Closed why) session = record { session = refl; entry = tt }
behind_modest m now p head.InOrder session = user_modest (listening m session now) true p
behind_modest m now p head.OutOfOrder session = user_modest (listening m session now) false p
behind_modest m now p head.AckOnly session = user_modest (listening m session now) false p

acknowledgement_modest : (a : Option Packet) (m : Manager) (now : ℕ) (given : HeadHeard) (session : one_end.State) → IsModestLinked a m.state (hear_acknowledgement m now given session)
acknowledgement_modest a m now (head.Closed why) session = record { session = refl; entry = tt }
acknowledgement_modest a m now given session = heard_modest a (listening m session now) heard.Session

linked_modest : (m : Manager) (now : ℕ) (p : Packet) (session : one_end.State) → IsModestLinked (Some p) m.state (hear_linked m now p session)
linked_modest m now (packet.Establish e) session = record { session = refl; entry = tt }
linked_modest m now (packet.Parameters p) session = record { session = refl; entry = tt }
linked_modest m now (packet.Ack h) session = acknowledgement_modest (Some (packet.Ack h)) m now (ack_heard h session).0 (ack_heard h session).1
linked_modest m now (packet.User p) session = behind_modest m now p (user_heard m.state session p).0 (user_heard m.state session p).1

-- a call of a manager that is linked, or is refused
linked_or : {V E : Type 0} {a : Option Packet} (m : Manager) (f : one_end.State → Outcome (Result V E)) (fault : E)
    → ((session : one_end.State) → m.rest.session ≡ Some session → IsModestLinked a m.state (f session))
    → IsModest a m (option_map_or f m.rest.session (answering m (Err fault)))
linked_or {a = a} m f fault linked = at m.rest.session refl
  where
    at : (o : Option one_end.State) → m.rest.session ≡ o → IsModest a m (option_map_or f o (answering m (Err fault)))
    at None e = record { session = refl; entry = tt }
    at (Some session) e = let h = linked session e in record { session = h.session ∙ sym (ap is_some e); entry = h.entry }

-- Pumping.

nothing_modest : (m : Manager) → is_some m.rest.session ≡ true → IsModestLinked {A = Result ℕ PumpFault} None m.state (answering m (Ok 0))
nothing_modest m linked = record { session = linked; entry = tt }

storage_modest : (m : Manager) (session : one_end.State) → is_some m.rest.session ≡ true → IsModestLinked None m.state (sending_ack m session)
storage_modest m session linked = either m.state session.owes (sending_one m (packet.Ack (stamped kind.Ack session).0) (stamped kind.Ack session).1) (answering m (Ok 0))
    (record { session = refl; entry = tt }) (nothing_modest m linked)

chosen_modest : (m : Manager) (now : ℕ) (session : one_end.State) (k : ℕ) (to : Guid) (cs : List Candidate) → AreOfRows m.state.outs cs → is_some m.rest.session ≡ true
    → IsModestLinked None m.state (sending_chosen m now session k to cs)
chosen_modest m now session k to [] rows linked = storage_modest m session linked
chosen_modest m now session k to (c ∷ cs) rows linked = record {
  session = refl;
  entry = none_or None m.state (length (marks_for m.state (c ∷ cs)) == 0) (entry.Offered (marks_for m.state (c ∷ cs))) (c ∷ cs, refl, rows) tt;
}

pump_modest : (m : Manager) (now : ℕ) (session : one_end.State) (k : ℕ) (to : Guid) (cs : List Candidate) → AreOfRows m.state.outs cs → is_some m.rest.session ≡ true
    → IsModestLinked None m.state (pump_with m now session k to cs)
pump_modest m now session k to cs rows linked = either m.state (is_spent session && not (length cs == 0)) (answering m (Err pump_fault.Spent))
    (sending_chosen m now session k to (chosen session 0 0 cs)) (record { session = linked; entry = tt })
    (chosen_modest m now session k to (chosen session 0 0 cs) (chosen_all (λ c. IsOfRows m.state.outs c c.origin) session 0 0 cs rows) linked)

peer_modest : (m : Manager) (now : ℕ) (session : one_end.State) (k : ℕ) (peer : Identity) → is_some m.rest.session ≡ true
    → IsModestLinked None m.state (option_map_or (pump_to m now session k peer) (slice_get m.state.plain k) (answering m (Ok 0)))
peer_modest m now session k peer linked = or_linked m.state (pump_to m now session k peer) (slice_get m.state.plain k) (answering m (Ok 0))
    (λ p. pump_modest m now session k peer.guid (candidates m.state m.rest now k peer p) (candidates_open m.state m.rest now k peer p) linked) (nothing_modest m linked)

to_peer_modest : (m : Manager) (now : ℕ) (session : one_end.State) (k : ℕ) → is_some m.rest.session ≡ true → IsModestLinked None m.state (pump_at m now session k)
to_peer_modest m now session k linked = or_linked m.state (λ peer. option_map_or (pump_to m now session k peer) (slice_get m.state.plain k) (answering m (Ok 0)))
    (slice_get m.state.peers k) (answering m (Ok 0)) (λ peer. peer_modest m now session k peer linked) (nothing_modest m linked)

owed_modest : (m : Manager) (now : ℕ) (session : one_end.State) (owed : Option Internal) → is_some m.rest.session ≡ true → IsModestLinked None m.state (pump_owed m now session owed)
owed_modest m now session (Some owed) linked = record { session = refl; entry = tt }
owed_modest m now session None linked = let k = linked_peer m.state session in
    either m.state (is_ready session.phase) (pump_at m now session k) (answering m (Ok 0)) (to_peer_modest m now session k linked) (nothing_modest m linked)

session_modest : (m : Manager) (now : ℕ) (session : one_end.State) → is_some m.rest.session ≡ true → IsModestLinked None m.state (pump_linked m now session)
session_modest m now session linked = owed_modest m now session (owed_by session.phase now session) linked

-- Each call.

-- its answer left aside
without_answer : {A : Type 0} (says : A → Answer) (a : Option Packet) (m : Manager) (outcome : Outcome A) → IsModest a m outcome → IsModest a m (answered says outcome)
without_answer says a m outcome h = record { session = h.session; entry = h.entry }

-- the packet that a call hears
abbrev pub packet_heard : Call → Option Packet
packet_heard (Hear now p) = Some p
packet_heard _ = None

pub calls_are_modest : (m : Manager) (call : Call) → IsModest (packet_heard call) m (outcome_of m call)
calls_are_modest m (Asks given) = let h = request_laws m given in record {
  session = ap is_some h.session;
  entry = if_some (RecordFor m.state given) (λ r. IsMade m.state r × IsFrom None r) (requested m given).entry (request_made m.state given) h.entry;
}
calls_are_modest m Resend = resend_modest m
calls_are_modest m Checkpoint = record { session = refl; entry = tt }
calls_are_modest m (Pump now) = without_answer calls.Pumped None m _ (unless_modest m (pump_refusal m)
    (option_map_or (pump_linked m now) m.rest.session (answering m (Err pump_fault.NotLinked)))
    (linked_or m (pump_linked m now) pump_fault.NotLinked (λ session e. session_modest m now session (ap is_some e))))
calls_are_modest m (Hear now p) = without_answer calls.Heard (Some p) m _ (unless_modest m (hear_refusal m)
    (option_map_or (hear_linked m now p) m.rest.session (answering m (Err hear_fault.NotLinked)))
    (linked_or m (hear_linked m now p) hear_fault.NotLinked (λ session e. linked_modest m now p session)))

-- the state after it is of the same manager
pub after_call : {A : Type 0} (m : Manager) (outcome : Outcome A) → IfSome outcome.entry (IsMade m.state) → IsSameManager m.state (state_after m outcome)
after_call m outcome h = manager_then m.state (recorded m.state outcome.entry) (state_after m outcome) (recorded_manager m.state outcome.entry h)
    (beside_rows outcome.beside (recorded m.state outcome.entry)).manager

pub made_only : (a : Option Packet) (s : State) (o : Option Record) → IfSome o (λ r. IsMade s r × IsFrom a r) → IfSome o (IsMade s)
made_only a s None h = tt
made_only a s (Some r) h = h.0

pub from_only : (a : Option Packet) (s : State) (o : Option Record) → IfSome o (λ r. IsMade s r × IsFrom a r) → IfSome o (IsFrom a)
from_only a s None h = tt
from_only a s (Some r) h = h.1
