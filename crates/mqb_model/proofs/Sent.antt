-- The packets that a valid manager pumps can be heard.
use Rattle.std.proofs.Common.{refl, ap, sym, subst, ◌∙◌, length, arith}
use Rattle.std.proofs.lemmas.Bool.Decides.{nat_tests}
use Rattle.std.proofs.lemmas.List.Elements.{All-from_recursion, recursion_from_All}
use Rattle.std.specs.List.{AllByRecursion, cons_option, enumerate_from, flat_map}
use Rattle.std.specs.Option.{option_map_or}
use Rattle.std.specs.Prelude.{◌&&◌, ◌+◌, ◌++◌, ◌<◌, ◌==◌, ◌^◌, ◌∷◌, ◌≡◌, ◌≤◌, [], Bool, Err, IfSome, List, None, Ok, Option, Some, cond, false, filter_map, is_none, is_some, map, max, nat_lt, not, slice_get, true, zip, ℕ}
use Rattle.mqb_base.specs.declared.heads.SessionHead.{SessionHead}
use Rattle.mqb_base.specs.declared.heads.TxHead.{TxHead}
use Rattle.mqb_base.specs.declared.ids.Guid.{Guid}
use Rattle.mqb_base.specs.declared.ids.Identity.{Identity}
use Rattle.mqb_base.specs.declared.message.Delivery.{Delivery}
use Rattle.mqb_base.specs.declared.message.Delivery.TheVariants as delivery
use Rattle.mqb_base.specs.declared.message.Message.{Message}
use Rattle.mqb_fate.specs.Asking.{is_transactional}
use Rattle.mqb_fate.specs.Orders.{order_acknowledgement, order_layer}
use Rattle.mqb_packet.specs.mqb_heads.User.{user_names}
use Rattle.mqb_packet.specs.mqb_heads.declared.base.TheConstants.{MAX_PACKET}
use Rattle.mqb_packet.specs.mqb_names.Values.{IsName}
use Rattle.mqb_packet.specs.mqb_names.Wire.{wire}
use Rattle.mqb_orders.specs.Rows.{Row, is_open}
use Rattle.mqb_orders.specs.declared.kept.Kept.{Kept}
use Rattle.mqb_orders.specs.declared.rows.InRow.{InRow}
use Rattle.mqb_packet.specs.Plain.{carried_user, message_size, user_packet_size}
use Rattle.mqb_packet.specs.declared.packet.Headers.TheVariants as headers
use Rattle.mqb_packet.specs.declared.packet.Packet.TheVariants as packet
use Rattle.mqb_plain.specs.Lists.{messages_of}
use Rattle.mqb_plain.specs.Plain.{PlainLists}
use Rattle.mqb_plain.specs.declared.outgoing.Outgoing.{Outgoing}
use Rattle.mqb_session.specs.Phases.{owed_by}
use Rattle.mqb_session.specs.Sending.{is_ready, is_spent, stamped}
use Rattle.mqb_session.specs.State as one_end
use Rattle.mqb_session.specs.declared.heads.Kind.TheVariants as kind
use Rattle.mqb_packet.specs.mqb_setup.declared.internal.Internal.{Internal}
use Rattle.mqb_packet.specs.mqb_setup.declared.internal.Internal.TheVariants as internal
use Rattle.mqb_model.specs.calls.hear.Hear.{IsReadable}
use Rattle.mqb_model.specs.calls.pump.Candidates.{Candidate, ack_candidate, ack_of, acks, candidates, of_row, plain_candidates, row_candidates, rows_owing, unsent_from, unsent_of, waiting}
use Rattle.mqb_model.specs.calls.pump.Choosing.{chosen, head_for, headers_for, kind_of, session_after, with_heads}
use Rattle.mqb_model.specs.calls.pump.Pump.{PumpOutcome, carriage_for, packet_for, pump, pump_at, pump_linked, pump_owed, pump_refusal, pump_to, pump_with, sending_ack, sending_chosen, sending_one}
use Rattle.mqb_model.specs.declared.faults.PumpFault.{PumpFault}
use Rattle.mqb_model.specs.declared.faults.PumpFault.TheVariants as fault
use Rattle.mqb_model.specs.laws.Fitting.{PumpedIsReadable}
use Rattle.mqb_model.specs.managers.Beside.{OfExpress, OfRecoverable, Origin}
use Rattle.mqb_model.specs.managers.Manager.{Manager, is_down, linked_peer}
use Rattle.mqb_model.specs.managers.Outcomes.{answering, unless}
use Rattle.mqb_model.specs.managers.Valid.{IsValidManager, express_waiting}
use Rattle.mqb_model.specs.records.Packets.{is_recoverable, is_too_large}
use Rattle.mqb_model.specs.rules.Numbers.{express_after, own_id}
use Rattle.mqb_model.specs.state.Places.{is_express}
use Rattle.mqb_model.specs.state.State.{State}
use Rattle.mqb_model.specs.state.Valid.{IsCarried, IsInOrder, IsKeptBy, kept_messages, recoverable_messages}
use Rattle.mqb_model.proofs.Accord.{IsLinked}
use Rattle.mqb_model.proofs.Adding.{append_nothing}
use Rattle.mqb_model.proofs.Calling.{up_where}
use Rattle.mqb_model.proofs.Holding.{get_holds}
use Rattle.mqb_model.proofs.Members.{all_append, all_left, all_right, fewer_all, fewer_filter}
use Rattle.mqb_model.proofs.Noticing.{wire_most}
use Rattle.mqb_model.proofs.Offering.{kept_in}
use Rattle.mqb_model.proofs.Offers.{Go, chosen_all, chosen_go}
use Rattle.mqb_model.proofs.Releasing.{fewer_at, mapped_all}
use Rattle.mqb_model.proofs.Sessions.{Links, sent_linked}
use Rattle.mqb_model.proofs.Succeeding.{valid_accords}

-- What could go can be carried with its headers, and is transactional exactly where it is of a stream.
pub record IsSendable (c : Candidate) : Type 0 where
  pub carried : IsCarried (headers_for c.tx) c.message
  pub kind : is_some c.tx ≡ is_transactional c.message.delivery

small : (size limit : ℕ) → size ≤ limit → nat_lt limit size ≡ false
small size limit h = grind (arith, nat_tests)

-- Acknowledgements.

ack_sendable : (s : State) (peer : Identity) (now number : ℕ) (row : ℕ × InRow) → IsName peer.host → IsSendable (ack_candidate s peer now number row)
ack_sendable s peer now number row host = record {
  carried = record {
    well_formed = record {
      priority = omega arith;
      ack = omega arith;
      journal = omega arith;
      label = omega arith;
      class = refl;
      destination = refl;
      admin = refl;
      response = refl;
    };
    named = record { destination = (host, refl); admin = tt; response = tt };
    size = little;
  };
  kind = refl;
}
  where
    told : Message
    told = order_acknowledgement (ack_of row.1) peer.host (own_id s number) now

    little : is_too_large headers.Session told ≡ false
    little = let most = wire_most (order_layer peer.host) (host, refl) in
        let names : length (user_names told) ≡ length (wire (order_layer peer.host)) = ap length (append_nothing (wire (order_layer peer.host) ++ []) ∙ append_nothing (wire (order_layer peer.host))) in
        let body : length told.body ≡ 16 = refl in
        let size : message_size headers.Session told ≤ MAX_PACKET = omega (arith, most, names, body) in small (message_size headers.Session told) MAX_PACKET size

acks_sendable : (s : State) (peer : Identity) (now number : ℕ) (rows : List (ℕ × InRow)) → IsName peer.host → AllByRecursion IsSendable (acks s peer now number rows)
acks_sendable s peer now number [] host = tt
acks_sendable s peer now number (row ∷ rows) host = (ack_sendable s peer now number row host, acks_sendable s peer now (express_after number) rows host)

-- Plain messages.

-- a message that can be carried in a session and is not transactional
abbrev IsPlain : Message → Type 0
IsPlain m = IsCarried headers.Session m × (is_transactional m.delivery ≡ false)

unsent_sendable : (from : Origin) (items : List Outgoing) → AllByRecursion (λ o. IsPlain o.message) items → AllByRecursion IsSendable (filter_map (unsent_from from) items)
unsent_sendable from [] h = tt
unsent_sendable from (o ∷ items) h = at (is_none o.mark) (unsent_sendable from items h.1)
  where
    at : (b : Bool) → AllByRecursion IsSendable (filter_map (unsent_from from) items)
        → AllByRecursion IsSendable (cons_option (cond b (Some (record { origin = from; message = o.message; tx = None })) None) (filter_map (unsent_from from) items))
    at true more = (record { carried = (h.0).0; kind = sym (h.0).1 }, more)
    at false more = more

recoverable_plain : (x : Delivery) → is_recoverable x ≡ true → is_transactional x ≡ false
recoverable_plain delivery.Express e = refl
recoverable_plain delivery.Recoverable e = refl
recoverable_plain delivery.Transactional e = absurd (let none : ⊥ = cc in none)

express_plain : (x : Delivery) → is_express x ≡ true → is_transactional x ≡ false
express_plain delivery.Express e = refl
express_plain delivery.Recoverable e = refl
express_plain delivery.Transactional e = absurd (let none : ⊥ = cc in none)

plain_sendable : (m : Manager) → IsValidManager m → (k : ℕ) (p : PlainLists) → slice_get m.state.plain k ≡ Some p → AllByRecursion IsSendable (plain_candidates p)
plain_sendable m v k p at = all_append IsSendable (filter_map (unsent_from OfRecoverable) p.recoverable) (filter_map (unsent_from OfExpress) p.express)
    (unsent_sendable OfRecoverable p.recoverable (mapped_all IsPlain (λ o. o.message) p.recoverable
    (fewer_all IsPlain (fewer_at (λ p. messages_of p.recoverable) m.state.plain k p at) (recursion_from_All IsPlain (recoverable_messages m.state)
    (λ k d lt. (v.state.plain k d lt, recoverable_plain _ (v.state.recoverable k d lt)))))))
    (unsent_sendable OfExpress p.express (mapped_all IsPlain (λ o. o.message) p.express
    (fewer_all IsPlain (fewer_at (λ p. messages_of p.express) m.state.plain k p at) (recursion_from_All IsPlain (express_waiting m.state)
    (λ k d lt. (v.express.waiting k d lt, express_plain _ (v.express.waiting_express k d lt)))))))

-- Messages of streams.

abbrev IsStreamed : Kept → Type 0
IsStreamed k = IsCarried headers.TxAndSession k.message × (is_transactional k.message.delivery ≡ true)

abbrev RowStreams : Row → Type 0
RowStreams row = AllByRecursion IsStreamed row.kept

kept_streamed : (row : Row) (ks : List Kept) → AllByRecursion (IsCarried headers.TxAndSession) (map (λ k. k.message) ks) → AllByRecursion (IsKeptBy row) ks → AllByRecursion IsStreamed ks
kept_streamed row [] c b = tt
kept_streamed row (k ∷ ks) c b = ((c.0, (b.0).transactional), kept_streamed row ks c.1 b.1)

rows_stream : (n : ℕ) (rows : List Row) → AllByRecursion (IsCarried headers.TxAndSession) (kept_in rows) → AllByRecursion (IsInOrder n) rows → AllByRecursion RowStreams rows
rows_stream n [] c o = tt
rows_stream n (row ∷ rows) c o = let ms = map (λ k. k.message) row.kept in (
  kept_streamed row row.kept (all_left (IsCarried headers.TxAndSession) ms (kept_in rows) c) (recursion_from_All (IsKeptBy row) row.kept (o.0).kept),
  rows_stream n rows (all_right (IsCarried headers.TxAndSession) ms (kept_in rows) c) o.1,
)

row_sendable : (s : State) (peer n : ℕ) (row : Row) (cursor : ℕ) → RowStreams row → AllByRecursion IsSendable (waiting s peer (n, (row, cursor)))
row_sendable s peer n row cursor h = at (row.peer == peer && is_open s.outs n)
  where
    each : (ks : List Kept) → AllByRecursion IsStreamed ks → AllByRecursion IsSendable (map (of_row n row) ks)
    each [] a = tt
    each (k ∷ ks) a = (record { carried = (a.0).0; kind = sym (a.0).1 }, each ks a.1)

    at : (b : Bool) → AllByRecursion IsSendable (cond b (map (of_row n row) (unsent_of row cursor)) [])
    at true = each (unsent_of row cursor) (fewer_all IsStreamed (fewer_filter (λ k. nat_lt (max row.acked cursor) k.number) row.kept) h)
    at false = tt

rows_sendable : (s : State) (peer n : ℕ) (outs : List Row) (cursors : List ℕ) → AllByRecursion RowStreams outs
    → AllByRecursion IsSendable (flat_map (waiting s peer) (enumerate_from n (zip outs cursors)))
rows_sendable s peer n [] [] h = tt
rows_sendable s peer n [] (c ∷ cursors) h = tt
rows_sendable s peer n (row ∷ outs) [] h = tt
rows_sendable s peer n (row ∷ outs) (c ∷ cursors) h = all_append IsSendable (waiting s peer (n, (row, c))) _ (row_sendable s peer n row c h.0)
    (rows_sendable s peer (n + 1) outs cursors h.1)

candidates_sendable : (m : Manager) → IsValidManager m → (now k : ℕ) (peer : Identity) (p : PlainLists) → slice_get m.state.plain k ≡ Some p → IsName peer.host
    → AllByRecursion IsSendable (candidates m.state m.rest now k peer p)
candidates_sendable m v now k peer p at host = all_append IsSendable (acks m.state peer now m.state.next_express (rows_owing m.state m.rest peer.guid) ++ plain_candidates p)
    (row_candidates m.state m.rest k)
    (all_append IsSendable (acks m.state peer now m.state.next_express (rows_owing m.state m.rest peer.guid)) (plain_candidates p)
    (acks_sendable m.state peer now m.state.next_express (rows_owing m.state m.rest peer.guid) host) (plain_sendable m v k p at))
    (rows_sendable m.state k 0 m.state.outs m.rest.cursors (rows_stream (length m.state.peers) m.state.outs
    (recursion_from_All (IsCarried headers.TxAndSession) (kept_messages m.state) v.state.kept) (recursion_from_All (IsInOrder (length m.state.peers)) m.state.outs v.state.rows)))

-- Packets.

packet_readable : (to : Guid) (now : ℕ) (c : Candidate) (head : SessionHead) → IsSendable c → head.user < 2 ^ 16 → IsReadable (packet_for to now (c, head))
packet_readable to now c head h number = record {
  well_formed = record {
    message = let w = h.carried.well_formed in record {
      priority = w.priority;
      ack = w.ack;
      journal = w.journal;
      label = w.label;
      class = w.class;
      destination = w.destination;
      admin = w.admin;
      response = w.response;
    };
    tx = h.kind;
    reach = refl;
  };
  names = let n = h.carried.named in record { destination = n.destination; admin = n.admin; response = n.response };
  number = number;
  size = at c.tx h.carried.size;
}
  where
    most : (size limit : ℕ) → nat_lt limit size ≡ false → size ≤ limit
    most size limit e = grind (arith, nat_tests)

    at : (o : Option TxHead) → is_too_large (headers_for o) c.message ≡ false
        → user_packet_size (carried_user c.message (record (carriage_for to now (c, head)) { tx = o })) ≤ MAX_PACKET
    at None e = most (message_size headers.Session c.message) MAX_PACKET e
    at (Some tx) e = most (message_size headers.TxAndSession c.message) MAX_PACKET e

module _ (m : Manager) (v : IsValidManager m) (up : is_down m ≡ false) (now : ℕ) where
  abbrev IsOne : one_end.State → Type 0
  IsOne session = Links m.state.identity m.state.peers m.state.plain session

  below : (n : ℕ) → n ≤ 65535 → n < 2 ^ 16
  below n le = omega (arith, le)

  packets_readable : (to : Guid) (session : one_end.State) (cs : List Candidate) → IsOne session → Go session cs → AllByRecursion IsSendable cs
      → AllByRecursion IsReadable (map (packet_for to now) (with_heads session cs))
  packets_readable to session [] l go h = tt
  packets_readable to session (c ∷ cs) l go h = let next = sent_linked m.state.identity m.state.peers m.state.plain (kind_of c.origin) session go.0 l in (
    packet_readable to now c (head_for session c) h.0 (below (session_after session c).sent next.kept.sent),
    packets_readable to (session_after session c) cs next go.1 h.1,
  )

  -- the packets of an outcome can be heard
  abbrev AreReadable : PumpOutcome → Type 0
  AreReadable outcome = AllByRecursion IsReadable outcome.packets

  ack_readable : (session : one_end.State) → AreReadable (sending_ack m session)
  ack_readable session = at session.owes
    where
      at : (b : Bool) → AreReadable (cond b (sending_one m (packet.Ack (stamped kind.Ack session).0) (stamped kind.Ack session).1) (answering m (Ok 0)))
      at true = (record { well_formed = tt; names = tt; number = tt; size = omega arith }, tt)
      at false = tt

  chosen_readable : (session : one_end.State) (k : ℕ) (to : Guid) (cs : List Candidate) → IsOne session → Go session cs → AllByRecursion IsSendable cs
      → AreReadable (sending_chosen m now session k to cs)
  chosen_readable session k to [] l go h = ack_readable session
  chosen_readable session k to (c ∷ cs) l go h = packets_readable to session (c ∷ cs) l go h

  with_readable : (session : one_end.State) (k : ℕ) (to : Guid) (cs : List Candidate) → IsOne session → AllByRecursion IsSendable cs → AreReadable (pump_with m now session k to cs)
  with_readable session k to cs l h = at (is_spent session && not (length cs == 0))
    where
      at : (b : Bool) → AreReadable (cond b (answering m (Err fault.Spent)) (sending_chosen m now session k to (chosen session 0 0 cs)))
      at true = tt
      at false = chosen_readable session k to (chosen session 0 0 cs) l (chosen_go session 0 0 cs) (chosen_all IsSendable session 0 0 cs h)

  to_readable : (session : one_end.State) (k : ℕ) → IsOne session → AreReadable (pump_at m now session k)
  to_readable session k l = at (slice_get m.state.peers k) (get_holds (λ p. IsName p.host) m.state.peers k (recursion_from_All (λ p. IsName p.host) m.state.peers v.state.hosts))
    where
      lists : (peer : Identity) → IsName peer.host → (o : Option PlainLists) → slice_get m.state.plain k ≡ o → AreReadable (option_map_or (pump_to m now session k peer) o (answering m (Ok 0)))
      lists peer host None e = tt
      lists peer host (Some p) e = with_readable session k peer.guid (candidates m.state m.rest now k peer p) l (candidates_sendable m v now k peer p e host)

      at : (o : Option Identity) → IfSome o (λ p. IsName p.host)
          → AreReadable (option_map_or (λ peer. option_map_or (pump_to m now session k peer) (slice_get m.state.plain k) (answering m (Ok 0))) o (answering m (Ok 0)))
      at None host = tt
      at (Some peer) host = lists peer host (slice_get m.state.plain k) refl

  linked_readable : (session : one_end.State) → IsOne session → AreReadable (pump_linked m now session)
  linked_readable session l = at (owed_by session.phase now session)
    where
      ready : (b : Bool) → AreReadable (cond b (pump_at m now session (linked_peer m.state session)) (answering m (Ok 0)))
      ready true = to_readable session (linked_peer m.state session) l
      ready false = tt

      at : (o : Option Internal) → AreReadable (pump_owed m now session o)
      at None = ready (is_ready session.phase)
      at (Some (internal.Establish e)) = (record { well_formed = tt; names = tt; number = tt; size = omega arith }, tt)
      at (Some (internal.Parameters p)) = (record { well_formed = tt; names = tt; number = tt; size = omega arith }, tt)
      at (Some (internal.Ack h)) = (record { well_formed = tt; names = tt; number = tt; size = omega arith }, tt)

pub pumped_is_readable : PumpedIsReadable
pumped_is_readable m v now = All-from_recursion IsReadable (pump m now).packets (unless_readable (pump_refusal m) refl)
  where
    linked : is_down m ≡ false → (o : Option one_end.State) → m.rest.session ≡ o
        → AllByRecursion IsReadable (option_map_or (pump_linked m now) o (answering m (Err fault.NotLinked))).packets
    linked up None e = tt
    linked up (Some session) e = linked_readable m v up now session (subst (IsLinked m.state.identity m.state.peers m.state.plain) e (valid_accords m up v).linked)

    unless_readable : (o : Option PumpFault) → pump_refusal m ≡ o
        → AllByRecursion IsReadable (unless m o (option_map_or (pump_linked m now) m.rest.session (answering m (Err fault.NotLinked)))).packets
    unless_readable (Some fault) e = tt
    unless_readable None e = linked (up_where (is_down m) _ _ e) m.rest.session refl
