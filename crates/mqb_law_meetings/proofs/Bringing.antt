-- Neither a pump nor a packet that is heard brings what a manager lacks, but for notices about what is heard.
use Rattle.std.proofs.Common.{◌≡◌, ℕ, ◌⊎◌, ◌==◌, ◌&&◌, Bool, true, false, cond, not, List, [], ◌∷◌, Option, Some, None, refl}
use Rattle.std.specs.List.{list_any}
use Rattle.std.specs.Option.{option_map_or}
use Rattle.std.specs.Prelude.{Err, Ok, fold, is_none, length, map, slice_get}
use Rattle.mqb_base.specs.declared.class.Class.{Class}
use Rattle.mqb_base.specs.declared.heads.SessionHead.{SessionHead}
use Rattle.mqb_base.specs.declared.heads.TxHead.{TxHead}
use Rattle.mqb_base.specs.declared.heard.Heard.{Heard}
use Rattle.mqb_base.specs.declared.heard.Heard.TheVariants as heard
use Rattle.mqb_base.specs.declared.ids.Identity.{Identity}
use Rattle.mqb_base.specs.declared.message.Lane.TheVariants as lane
use Rattle.mqb_base.specs.declared.message.Message.{Message}
use Rattle.mqb_fate.specs.Asking.{is_ordinary}
use Rattle.mqb_fate.specs.declared.orders.OrderAck.{OrderAck}
use Rattle.mqb_model.specs.calls.hear.Hear.{hear, hear_acknowledgement, hear_behind, hear_linked, hear_refusal, hear_user, listening}
use Rattle.mqb_model.specs.calls.hear.Plain.{hear_arriving, hear_express, hear_final, hear_message, hear_plain, hear_recoverable, hear_stored, stored_answer}
use Rattle.mqb_model.specs.calls.hear.Session.{HeardOutcome, Listening, ack_heard, arrival_entry, discarded, heard_as, numbers_released, peer_heard, user_heard}
use Rattle.mqb_model.specs.calls.hear.Streams.{acknowledged_in, decided_answer, duplicate_heard, has_sequence, hear_in_stream, hear_order_ack, index_for, judged, order_acked, owing, raises}
use Rattle.mqb_model.specs.calls.pump.Candidates.{Candidate, candidates}
use Rattle.mqb_model.specs.calls.pump.Choosing.{chosen, with_heads}
use Rattle.mqb_model.specs.calls.pump.Pump.{PumpOutcome, marks_for, offered_entry, origin_of, pump, pump_at, pump_linked, pump_owed, pump_ready, pump_refusal, pump_to, sending_all, sending_chosen, sending_one}
use Rattle.mqb_model.specs.declared.faults.HearFault.{HearFault}
use Rattle.mqb_model.specs.declared.faults.HearFault.TheVariants as hear_fault
use Rattle.mqb_model.specs.declared.faults.PumpFault.{PumpFault}
use Rattle.mqb_model.specs.declared.faults.PumpFault.TheVariants as pump_fault
use Rattle.mqb_model.specs.managers.Beside.{OfExpress, OfRecoverable, OfRow, Origin, Owed, noted, with_marked, without_acked}
use Rattle.mqb_model.specs.managers.Manager.{Manager, linked_peer}
use Rattle.mqb_model.specs.managers.Outcomes.{answering, recorded, state_after, succeeded, unless}
use Rattle.mqb_model.specs.records.Finals.{is_final}
use Rattle.mqb_model.specs.records.Offered.{mark_raised, with_offered}
use Rattle.mqb_model.specs.records.Record.{Decided, Final, Nothing, OrderAcknowledged, Part, Stored}
use Rattle.mqb_model.specs.records.Record as entry
use Rattle.mqb_model.specs.records.Releases.{releases_made}
use Rattle.mqb_model.specs.rules.Arrivals.{refusal_of, storing_refusal}
use Rattle.mqb_model.specs.rules.Effects.{begun}
use Rattle.mqb_model.specs.state.Places.{is_express, with_plain}
use Rattle.mqb_model.specs.state.Resolving.{is_for_order_layer, resolved}
use Rattle.mqb_model.specs.state.Rows.{in_row}
use Rattle.mqb_model.specs.state.State.{State}
use Rattle.mqb_orders.specs.Judging.{verdict_of}
use Rattle.mqb_orders.specs.declared.judging.Verdict.{Verdict}
use Rattle.mqb_orders.specs.declared.judging.Verdict.TheVariants as verdict
use Rattle.mqb_packet.specs.declared.packet.Packet.{Packet}
use Rattle.mqb_packet.specs.declared.packet.Packet.TheVariants as packet
use Rattle.mqb_packet.specs.declared.packet.UserPacket.{UserPacket}
use Rattle.mqb_packet.specs.mqb_setup.declared.internal.Internal.{Internal}
use Rattle.mqb_plain.specs.Lists.{marked_next}
use Rattle.mqb_plain.specs.Plain.{PlainLists}
use Rattle.mqb_plain.specs.declared.outgoing.Outgoing.{Outgoing}
use Rattle.mqb_session.specs.Phases.{owed_by}
use Rattle.mqb_session.specs.Sending.{is_ready, is_spent, noted_stored, stamped}
use Rattle.mqb_session.specs.State as one_end
use Rattle.mqb_session.specs.declared.heads.HeadHeard.{HeadHeard}
use Rattle.mqb_session.specs.declared.heads.HeadHeard.TheVariants as head
use Rattle.mqb_session.specs.declared.heads.Kind.TheVariants as kind
use Rattle.mqb_law_meetings.proofs.Lacking.{IsOfOrdinary, Lessens, NoneOf, PartTellsNone, SaysNoOrdinary, TellsNone, arrived_lessens, express_placed, lessens_same, part_lessens, plain_lessens, released_lessens, row_lessens, stays, then}
use Rattle.mqb_law_meetings.proofs.Noticing.{IsOfNotice, refuses}

module _ (test : Message → Bool) (m : Manager) where
  -- What is heard.

  abbrev Hears : HeardOutcome → Type 0
  Hears o = Lessens test m.state (state_after m o)

  abbrev listens : one_end.State → ℕ → Listening
  listens y now = listening m y now

  recorded_lessens : (y : one_end.State) (now : ℕ) (part : Part) → PartTellsNone test part → Lessens test m.state (recorded m.state (arrival_entry (listens y now) part))
  recorded_lessens y now part tells = by part tells
    where
      numbers : List ℕ
      numbers = numbers_released (listens y now)

      made : (ns : List ℕ) (p : Part) → PartTellsNone test p → Lessens test m.state (recorded m.state (Some (entry.Arrived now ns p)))
      made ns p t = then test m.state (releases_made m.state ns).state _ (released_lessens test (begun m.state) ns) (part_lessens test now (releases_made m.state ns) p t)

      nothing : (b : Bool) (ns : List ℕ) → Lessens test m.state (recorded m.state (cond b None (Some (entry.Arrived now ns Nothing))))
      nothing true ns = stays test m.state
      nothing false ns = made ns Nothing tt

      by : (p : Part) → PartTellsNone test p → Lessens test m.state (recorded m.state (arrival_entry (listens y now) p))
      by Nothing t = nothing (length numbers == 0) numbers
      by (Decided p) t = made numbers (Decided p) t
      by (Stored p) t = made numbers (Stored p) t
      by (OrderAcknowledged ordinal number) t = made numbers (OrderAcknowledged ordinal number) t
      by (Final p) t = made numbers (Final p) t

  dropped : (s : State) (number k : ℕ) → Lessens test s (with_plain (without_acked number) s k)
  dropped s number k = plain_lessens test (without_acked number) (λ p h. h) s _ k refl refl

  part_heard : (y : one_end.State) (now : ℕ) (part : Part) (answer : Heard) → PartTellsNone test part → Hears (heard_as (listens y now) part answer)
  part_heard y now part answer tells = then test m.state (recorded m.state (arrival_entry (listens y now) part)) _ (recorded_lessens y now part tells)
      (dropped (recorded m.state (arrival_entry (listens y now) part)) y.acked (peer_heard (listens y now)))

  nothing_heard : (y : one_end.State) (now : ℕ) (answer : Heard) → Hears (heard_as (listens y now) Nothing answer)
  nothing_heard y now answer = part_heard y now Nothing answer tt

  -- a message that arrives without a record
  arriving : (y : one_end.State) (now : ℕ) (p : UserPacket) (refusal : Option Class) → TellsNone test p.message → is_express p.message.delivery ≡ true → IsOfNotice refusal
      → Hears (hear_arriving (listens y now) p.message refusal)
  arriving y now p refusal tells express class_is =
      let base : State = recorded m.state (arrival_entry (listens y now) Nothing) in
      let left : State = with_plain (without_acked y.acked) base (peer_heard (listens y now)) in
      then test m.state left _ (then test m.state base left (recorded_lessens y now Nothing tt) (dropped base y.acked (peer_heard (listens y now))))
      (arrived_lessens test left p.message now refusal tells class_is (λ none. express_placed test left (resolved left p.message.destination) p.message express))

  module _ (y : one_end.State) (now : ℕ) (u : UserPacket) (tells : TellsNone test u.message) where
    in_stream : (tx : TxHead) → Hears (hear_in_stream (listens y now) u tx)
    in_stream tx = ordinary (is_ordinary u.message)
      where
        again : (b : Bool) → Hears (cond b (owing (index_for m.state u.message) (duplicate_heard (listens y now) tx)) (duplicate_heard (listens y now) tx))
        again true = nothing_heard y now (heard.Duplicate tx.sequence tx.number)
        again false = nothing_heard y now (heard.Duplicate tx.sequence tx.number)

        by : (v : Verdict) → Hears (judged (listens y now) u tx v)
        by verdict.Next = part_heard y now (Decided u) (decided_answer tx (refusal_of m.state u)) tells
        by verdict.Duplicate = again (has_sequence m.state u.message tx)
        by verdict.Gap = nothing_heard y now (heard.Gap tx.sequence tx.number)
        by verdict.Stale = nothing_heard y now (heard.Stale tx.sequence tx.number)

        ordinary : (b : Bool) → Hears (cond b (judged (listens y now) u tx (verdict_of (in_row m.state u.message) tx)) (discarded (listens y now)))
        ordinary true = by (verdict_of (in_row m.state u.message) tx)
        ordinary false = nothing_heard y now heard.Discarded

    plain : (in_order : Bool) → Hears (hear_plain (listens y now) in_order u)
    plain in_order = acks (acknowledged_in m.state u.message)
      where
        recoverable : (b : Bool) → Hears (cond b (hear_final (listens y now) u) (hear_stored (listens y now) u))
        recoverable true = part_heard (noted_stored y) now (Final u) (heard.Final u.message.correlation u.message.class) tt
        recoverable false = part_heard (noted_stored y) now (Stored u) (stored_answer (storing_refusal m.state u)) tells

        express : (b : Bool) → is_express u.message.delivery ≡ true → Hears (cond b (discarded (listens y now)) (hear_arriving (listens y now) u.message (refusal_of m.state u)))
        express true e = nothing_heard y now heard.Discarded
        express false e = arriving y now u (refusal_of m.state u) tells e (refuses m.state u)

        ordered : (b : Bool) → is_express u.message.delivery ≡ b → Hears (cond b (hear_express (listens y now) u) (hear_recoverable (listens y now) u))
        ordered true e = express (is_for_order_layer m.state u.message.destination) e
        ordered false e = recoverable (is_final m.state u.message)

        message : (b : Bool) → Hears (hear_message (listens y now) b u)
        message true = ordered (is_express u.message.delivery) refl
        message false = nothing_heard y now heard.Discarded

        raised : (ack : OrderAck) (b : Bool) → Hears (cond b (order_acked (listens y now) ack) (heard_as (listens y now) Nothing heard.OldAck))
        raised ack true = part_heard y now (OrderAcknowledged ack.sequence.ordinal ack.number) (heard.OrderAcked ack.sequence.ordinal ack.number) tt
        raised ack false = nothing_heard y now heard.OldAck

        acks : (o : Option OrderAck) → Hears (option_map_or (hear_order_ack (listens y now)) o (hear_message (listens y now) in_order u))
        acks None = message in_order
        acks (Some ack) = raised ack (list_any (raises (peer_heard (listens y now)) ack) m.state.outs)

    user : (in_order : Bool) → Hears (hear_user (listens y now) in_order u)
    user in_order = at u.tx
      where
        at : (o : Option TxHead) → Hears (option_map_or (hear_in_stream (listens y now) u) o (hear_plain (listens y now) in_order u))
        at None = plain in_order
        at (Some tx) = in_stream tx

    behind : (h : HeadHeard) → Hears (hear_behind m now u h y)
    behind (head.Closed why) = stays test m.state
    behind head.InOrder = user true
    behind head.OutOfOrder = user false
    behind head.AckOnly = user false

  acknowledgement : (now : ℕ) (h : HeadHeard) (y : one_end.State) → Hears (hear_acknowledgement m now h y)
  acknowledgement now (head.Closed why) y = stays test m.state
  acknowledgement now head.InOrder y = nothing_heard y now heard.Session
  acknowledgement now head.OutOfOrder y = nothing_heard y now heard.Session
  acknowledgement now head.AckOnly y = nothing_heard y now heard.Session

  linked : (now : ℕ) (p : Packet) → SaysNoOrdinary p ⊎ IsOfOrdinary test → (y : one_end.State) → Hears (hear_linked m now p y)
  linked now (packet.Establish e) says y = stays test m.state
  linked now (packet.Parameters e) says y = stays test m.state
  linked now (packet.Ack h) says y = acknowledgement now (ack_heard h y).0 (ack_heard h y).1
  linked now (packet.User u) says y = behind (user_heard m.state y u).1 now u says (user_heard m.state y u).0

  pub hear_lessens : (now : ℕ) (p : Packet) → SaysNoOrdinary p ⊎ IsOfOrdinary test → Lessens test m.state (succeeded m (hear m p now)).state
  hear_lessens now p says = at (hear_refusal m)
    where
      there : (o : Option one_end.State) → Hears (option_map_or (hear_linked m now p) o (answering m (Err hear_fault.NotLinked)))
      there None = stays test m.state
      there (Some y) = linked now p says y

      at : (o : Option HearFault) → Hears (unless m o (option_map_or (hear_linked m now p) m.rest.session (answering m (Err hear_fault.NotLinked))))
      at (Some why) = stays test m.state
      at None = there m.rest.session

  -- What is sent.

  abbrev Sends : PumpOutcome → Type 0
  Sends o = Lessens test m.state (state_after m o)

  marked_none : (number : ℕ) (items : List Outgoing) → NoneOf test items → NoneOf test (marked_next number items)
  marked_none number [] h = tt
  marked_none number (o ∷ items) h = at (is_none o.mark) (marked_none number items h.1)
    where
      at : (b : Bool) → NoneOf test (marked_next number items) → NoneOf test (cond b (record o { mark = Some number } ∷ items) (o ∷ marked_next number items))
      at true rest = h
      at false rest = (h.0, rest)

  noted_lessens : (k : ℕ) (s : State) (given : List (Origin × SessionHead)) → Lessens test s (fold (noted k) s given)
  noted_lessens k s [] = stays test s
  noted_lessens k s ((origin, h) ∷ given) = then test s (noted k s (origin, h)) _ (by origin) (noted_lessens k (noted k s (origin, h)) given)
    where
      by : (o : Origin) → Lessens test s (noted k s (o, h))
      by (Owed row) = lessens_same test s _ refl refl
      by OfRecoverable = plain_lessens test (with_marked lane.Durable h.recoverable) (λ p n. marked_none h.recoverable p.recoverable n) s _ k refl refl
      by OfExpress = plain_lessens test (with_marked lane.Express h.user) (λ p n. n) s _ k refl refl
      by (OfRow row number) = stays test s

  raised_lessens : (s : State) (marks : List _) → Lessens test s (fold mark_raised s marks)
  raised_lessens s [] = stays test s
  raised_lessens s (mark ∷ marks) = then test s (mark_raised s mark) _ (row_lessens test (with_offered mark.number) (λ k row none. none) s mark.ordinal) (raised_lessens (mark_raised s mark) marks)

  all_sent : (now : ℕ) (y : one_end.State) (k : ℕ) (peer : Identity) (cs : List Candidate) → Sends (sending_all m now y k peer.guid cs)
  all_sent now y k peer cs = then test m.state (recorded m.state (offered_entry m.state cs)) _ (offers (length (marks_for m.state cs) == 0))
      (noted_lessens k (recorded m.state (offered_entry m.state cs)) (map origin_of (with_heads y cs)))
    where
      offers : (b : Bool) → Lessens test m.state (recorded m.state (cond b None (Some (entry.Offered (marks_for m.state cs)))))
      offers true = stays test m.state
      offers false = raised_lessens m.state (marks_for m.state cs)

  pump_ready_lessens : (now : ℕ) (y : one_end.State) → Sends (pump_ready m now y)
  pump_ready_lessens now y = at (is_ready y.phase)
    where
      k : ℕ
      k = linked_peer m.state y

      owes : (b : Bool) → Sends (cond b (sending_one m (packet.Ack (stamped kind.Ack y).0) (stamped kind.Ack y).1) (answering m (Ok 0)))
      owes true = stays test m.state
      owes false = stays test m.state

      by : (peer : Identity) (cs : List Candidate) → Sends (sending_chosen m now y k peer.guid cs)
      by peer [] = owes y.owes
      by peer (c ∷ cs) = all_sent now y k peer (c ∷ cs)

      spent : (peer : Identity) (cs : List Candidate) (b : Bool) → Sends (cond b (answering m (Err pump_fault.Spent)) (sending_chosen m now y k peer.guid (chosen y 0 0 cs)))
      spent peer cs true = stays test m.state
      spent peer cs false = by peer (chosen y 0 0 cs)

      lists : (peer : Identity) (o : Option PlainLists) → Sends (option_map_or (pump_to m now y k peer) o (answering m (Ok 0)))
      lists peer None = stays test m.state
      lists peer (Some p) = let cs = candidates m.state m.rest now k peer p in spent peer cs (is_spent y && not (length cs == 0))

      there : (o : Option Identity) → Sends (option_map_or (λ peer. option_map_or (pump_to m now y k peer) (slice_get m.state.plain k) (answering m (Ok 0))) o (answering m (Ok 0)))
      there None = stays test m.state
      there (Some peer) = lists peer (slice_get m.state.plain k)

      at : (b : Bool) → Sends (cond b (pump_at m now y k) (answering m (Ok 0)))
      at true = there (slice_get m.state.peers k)
      at false = stays test m.state

  pub pump_lessens : (now : ℕ) → Lessens test m.state (succeeded m (pump m now)).state
  pump_lessens now = at (pump_refusal m)
    where
      owed : (y : one_end.State) (o : Option Internal) → Sends (pump_owed m now y o)
      owed y (Some i) = stays test m.state
      owed y None = pump_ready_lessens now y

      there : (o : Option one_end.State) → Sends (option_map_or (pump_linked m now) o (answering m (Err pump_fault.NotLinked)))
      there None = stays test m.state
      there (Some y) = owed y (owed_by y.phase now y)

      at : (o : Option PumpFault) → Sends (unless m o (option_map_or (pump_linked m now) m.rest.session (answering m (Err pump_fault.NotLinked))))
      at (Some why) = stays test m.state
      at None = there m.rest.session
