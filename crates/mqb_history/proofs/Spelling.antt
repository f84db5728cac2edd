-- What a pump acknowledges was decided, and the messages of no transaction that it sends are its own.
use Rattle.std.proofs.Common.{refl, ap, sym, subst, ◌∙◌, inl, inr}
use Rattle.std.specs.List.{AllByRecursion, cons_option, enumerate_from, flat_map}
use Rattle.std.specs.Option.{option_map_or}
use Rattle.std.specs.Prelude.{[], ◌&&◌, ◌+◌, ◌++◌, ◌==◌, ◌∷◌, ◌≡◌, Bool, Err, IfSome, List, None, Ok, Option, Some, cond, false, filter_map, is_none, length, map, not, slice_get, suc, true, zero, zip, ℕ}
use Rattle.mqb_base.specs.Same.{same_guid}
use Rattle.mqb_base.specs.declared.class.TheConstants.Class.{ORDER_ACKNOWLEDGEMENT}
use Rattle.mqb_base.specs.declared.heads.SessionHead.{SessionHead}
use Rattle.mqb_base.specs.declared.ids.Guid.{Guid}
use Rattle.mqb_base.specs.declared.ids.Identity.{Identity}
use Rattle.mqb_base.specs.declared.ids.MessageId.{MessageId}
use Rattle.mqb_base.specs.declared.message.Message.{Message}
use Rattle.mqb_exactly_once.specs.Words.{In}
use Rattle.mqb_fate.specs.Orders.{ack_body}
use Rattle.mqb_model.specs.calls.pump.Candidates.{Candidate, ack_of, acks, candidates, of_row, owed_to, plain_candidates, row_candidates, rows_owing, unsent_from, unsent_of, waiting}
use Rattle.mqb_model.specs.calls.pump.Choosing.{chosen, head_for, session_after, with_heads}
use Rattle.mqb_model.specs.calls.pump.Pump.{PumpOutcome, carriage_for, marks_for, packet_for, pump_at, pump_linked, pump_owed, pump_refusal, pump_to, pump_with, sending_all, sending_chosen, sending_one, set_up_packet}
use Rattle.mqb_model.specs.declared.faults.PumpFault.{PumpFault}
use Rattle.mqb_model.specs.declared.faults.PumpFault.TheVariants as fault
use Rattle.mqb_model.specs.managers.Beside.{OfExpress, OfRecoverable}
use Rattle.mqb_model.specs.managers.Manager.{Manager, Rest, linked_peer}
use Rattle.mqb_model.specs.managers.Outcomes.{Outcome, answering, unless}
use Rattle.mqb_model.specs.records.Record as entry
use Rattle.mqb_model.specs.rules.Numbers.{express_after}
use Rattle.mqb_model.specs.state.Places.{is_express}
use Rattle.mqb_model.specs.state.State.{State}
use Rattle.mqb_orders.specs.Rows.{Row, is_open}
use Rattle.mqb_orders.specs.declared.kept.Kept.{Kept}
use Rattle.mqb_orders.specs.declared.rows.InRow.{InRow}
use Rattle.mqb_packet.specs.Plain.{carried_user}
use Rattle.mqb_packet.specs.declared.packet.Packet.{Packet}
use Rattle.mqb_packet.specs.declared.packet.Packet.TheVariants as packet
use Rattle.mqb_packet.specs.declared.packet.UserPacket.{UserPacket}
use Rattle.mqb_plain.specs.Lists.{unsent}
use Rattle.mqb_plain.specs.Plain.{PlainLists}
use Rattle.mqb_plain.specs.declared.outgoing.Outgoing.{Outgoing}
use Rattle.mqb_session.specs.Phases.{owed_by}
use Rattle.mqb_session.specs.Sending.{is_ready, is_spent, stamped}
use Rattle.mqb_session.specs.State as one_end
use Rattle.mqb_session.specs.declared.heads.Kind.TheVariants as kind
use Rattle.mqb_setup.specs.declared.internal.Internal.{Internal}
use Rattle.mqb_setup.specs.declared.internal.Internal.TheVariants as internal
use Rattle.mqb_history.specs.Acked.{is_order_ack}
use Rattle.mqb_model.specs.calls.Call.{Pump, outcome_of}
use Rattle.mqb_history.proofs.Lists.{all_append, clash, none_some, split_and, true_not_false}
use Rattle.mqb_history.proofs.Named.{IsRightBeside}
use Rattle.mqb_history.proofs.Names.{same_guid_is}
use Rattle.mqb_history.proofs.Naming.{ArePlain, IsQuiet, IsSafe, Knows}
use Rattle.mqb_history.proofs.Opening.{chosen_all}
use Rattle.mqb_history.proofs.Pumping.{IsOfMarks}

-- a message spells what an incoming row of a manager tells of a source
pub record SpellsRow (s : State) (to : Guid) (m : Message) : Type 0 where
  pub row : InRow
  pub there : In row s.ins
  pub source : row.source ≡ to
  pub spelled : m.body ≡ ack_body (ack_of row)
  pub own : m.id.qm ≡ s.identity.guid

module _ (own : Guid) (K : MessageId → Type 0) (V : ℕ → Type 0) (mine : (id : MessageId) → id.qm ≡ own → K id) where
  -- a message that goes to a manager is an order acknowledgement that spells a row, or it is safe
  pub record GoesRightly (s : State) (to : Guid) (m : Message) : Type 0 where
    pub order : is_order_ack m ≡ true → SpellsRow s to m
    pub plain : is_express m.delivery ≡ false → IsSafe own K V s.next_number (unsent m)

  abbrev IsRightCandidate : State → Guid → Candidate → Type 0
  IsRightCandidate s to c = c.tx ≡ None → GoesRightly s to c.message

  abbrev pub IsRightPacket : State → Packet → Type 0
  IsRightPacket s x = (p : UserPacket) → x ≡ packet.User p → p.tx ≡ None → GoesRightly s p.to p.message

  -- Candidates.

  acks_right : (s : State) (peer : Identity) (now number : ℕ) (rows : List (ℕ × InRow)) → AllByRecursion (λ (r : ℕ × InRow). In r.1 s.ins × (r.1.source ≡ peer.guid)) rows
      → AllByRecursion (IsRightCandidate s peer.guid) (acks s peer now number rows)
  acks_right s peer now number [] h = tt
  acks_right s peer now number (row ∷ rows) h = (
    λ none. record {
      order = λ e. record { row = row.1; there = h.0.0; source = h.0.1; spelled = refl; own = refl };
      plain = λ e. absurd (clash e);
    },
    acks_right s peer now (express_after number) rows h.1,
  )

  owing_rows : (s : State) (peer : Guid) (n : ℕ) (rows : List InRow) (owes : List Bool) → ((r : InRow) → In r rows → In r s.ins)
      → AllByRecursion (λ (r : ℕ × InRow). In r.1 s.ins × (r.1.source ≡ peer)) (filter_map (owed_to peer) (enumerate_from n (zip rows owes)))
  owing_rows s peer n [] owes within = tt
  owing_rows s peer n (row ∷ rows) [] within = tt
  owing_rows s peer n (row ∷ rows) (owed ∷ owes) within = at (owed && same_guid row.source peer) refl (owing_rows s peer (n + 1) rows owes (λ r i. within r (inr i)))
    where
      rest : List (ℕ × InRow)
      rest = filter_map (owed_to peer) (enumerate_from (n + 1) (zip rows owes))

      at : (b : Bool) → (owed && same_guid row.source peer) ≡ b → AllByRecursion (λ (r : ℕ × InRow). In r.1 s.ins × (r.1.source ≡ peer)) rest
          → AllByRecursion (λ (r : ℕ × InRow). In r.1 s.ins × (r.1.source ≡ peer)) (cons_option (cond b (Some (n, row)) None) rest)
      at true e behind = ((within row (inl refl), same_guid_is row.source peer (split_and owed (same_guid row.source peer) e).1), behind)
      at false e behind = behind

  recoverable_right : (s : State) (to : Guid) (os : List Outgoing) → AllByRecursion (IsSafe own K V s.next_number) os → AllByRecursion (IsRightCandidate s to) (filter_map (unsent_from OfRecoverable) os)
  recoverable_right s to [] h = tt
  recoverable_right s to (o ∷ os) h = at (is_none o.mark) (recoverable_right s to os h.1)
    where
      right : GoesRightly s to o.message
      right = record {
        order = λ e. absurd (true_not_false (is_express o.message.delivery) (split_and (is_express o.message.delivery) (o.message.class.0 == ORDER_ACKNOWLEDGEMENT.0) e).0 h.0.durable);
        plain = λ e. record { source = h.0.source; durable = h.0.durable; below = h.0.below; unused = h.0.unused; about = h.0.about };
      }

      at : (b : Bool) → AllByRecursion (IsRightCandidate s to) (filter_map (unsent_from OfRecoverable) os)
          → AllByRecursion (IsRightCandidate s to) (cons_option (cond b (Some (record { origin = OfRecoverable; message = o.message; tx = None })) None) (filter_map (unsent_from OfRecoverable) os))
      at true rest = (λ none. right, rest)
      at false rest = rest

  express_right : (s : State) (to : Guid) (os : List Outgoing) → AllByRecursion IsQuiet os → AllByRecursion (IsRightCandidate s to) (filter_map (unsent_from OfExpress) os)
  express_right s to [] h = tt
  express_right s to (o ∷ os) h = at (is_none o.mark) (express_right s to os h.1)
    where
      right : GoesRightly s to o.message
      right = record {
        order = λ e. absurd (true_not_false (o.message.class.0 == ORDER_ACKNOWLEDGEMENT.0) (split_and (is_express o.message.delivery) (o.message.class.0 == ORDER_ACKNOWLEDGEMENT.0) e).1 h.0.1);
        plain = λ e. absurd (true_not_false (is_express o.message.delivery) h.0.0 e);
      }

      at : (b : Bool) → AllByRecursion (IsRightCandidate s to) (filter_map (unsent_from OfExpress) os)
          → AllByRecursion (IsRightCandidate s to) (cons_option (cond b (Some (record { origin = OfExpress; message = o.message; tx = None })) None) (filter_map (unsent_from OfExpress) os))
      at true rest = (λ none. right, rest)
      at false rest = rest

  kept_right : (s : State) (to : Guid) (index : ℕ) (row : Row) (ks : List Kept) → AllByRecursion (IsRightCandidate s to) (map (of_row index row) ks)
  kept_right s to index row [] = tt
  kept_right s to index row (k ∷ ks) = (λ none. absurd (none_some (sym none)), kept_right s to index row ks)

  waiting_right : (s : State) (to : Guid) (peer index : ℕ) (row : Row) (cursor : ℕ) → AllByRecursion (IsRightCandidate s to) (waiting s peer (index, (row, cursor)))
  waiting_right s to peer index row cursor = at ((row.peer == peer) && is_open s.outs index)
    where
      at : (b : Bool) → AllByRecursion (IsRightCandidate s to) (cond b (map (of_row index row) (unsent_of row cursor)) [])
      at true = kept_right s to index row (unsent_of row cursor)
      at false = tt

  rows_right : (s : State) (to : Guid) (peer n : ℕ) (rows : List Row) (cursors : List ℕ) → AllByRecursion (IsRightCandidate s to) (flat_map (waiting s peer) (enumerate_from n (zip rows cursors)))
  rows_right s to peer n [] cursors = tt
  rows_right s to peer n (row ∷ rows) [] = tt
  rows_right s to peer n (row ∷ rows) (cursor ∷ cursors) = all_append (IsRightCandidate s to) (waiting s peer (n, (row, cursor))) (flat_map (waiting s peer) (enumerate_from (n + 1) (zip rows cursors)))
      (waiting_right s to peer n row cursor) (rows_right s to peer (n + 1) rows cursors)

  candidates_right : (s : State) (rest : Rest) (now k : ℕ) (peer : Identity) (p : PlainLists) → ArePlain own K V s.next_number p
      → AllByRecursion (IsRightCandidate s peer.guid) (candidates s rest now k peer p)
  candidates_right s rest now k peer p h = all_append (IsRightCandidate s peer.guid) (acks s peer now s.next_express (rows_owing s rest peer.guid) ++ plain_candidates p) (row_candidates s rest k)
      (all_append (IsRightCandidate s peer.guid) (acks s peer now s.next_express (rows_owing s rest peer.guid)) (plain_candidates p)
      (acks_right s peer now s.next_express (rows_owing s rest peer.guid) (owing_rows s peer.guid 0 s.ins rest.owes (λ r i. i)))
      (all_append (IsRightCandidate s peer.guid) (filter_map (unsent_from OfRecoverable) p.recoverable) (filter_map (unsent_from OfExpress) p.express)
      (recoverable_right s peer.guid p.recoverable h.recoverable) (express_right s peer.guid p.express h.express)))
      (rows_right s peer.guid k 0 s.outs rest.cursors)

  -- Packets.

  user_is : (a b : UserPacket) → packet.User a ≡ packet.User b → a ≡ b
  user_is a b e = cc

  packet_right : (s : State) (to : Guid) (now : ℕ) (c : Candidate) (head : SessionHead) → IsRightCandidate s to c → IsRightPacket s (packet_for to now (c, head))
  packet_right s to now c head h p e none = subst (λ (y : UserPacket). GoesRightly s y.to y.message) same (record {
    order = λ f. let g = right.order f in record { row = g.row; there = g.there; source = g.source; spelled = g.spelled; own = g.own };
    plain = λ f. let g = right.plain f in record { source = g.source; durable = g.durable; below = g.below; unused = g.unused; about = g.about };
  })
    where
      same : carried_user c.message (carriage_for to now (c, head)) ≡ p
      same = user_is (carried_user c.message (carriage_for to now (c, head))) p e

      right : GoesRightly s to c.message
      right = h (ap (λ (y : UserPacket). y.tx) same ∙ none)

  packets_right : (s : State) (to : Guid) (now : ℕ) (session : one_end.State) (cs : List Candidate) → AllByRecursion (IsRightCandidate s to) cs
      → AllByRecursion (IsRightPacket s) (map (packet_for to now) (with_heads session cs))
  packets_right s to now session [] h = tt
  packets_right s to now session (c ∷ cs) h = (packet_right s to now c (head_for session c) h.0, packets_right s to now (session_after session c) cs h.1)

  -- Pumps.

  pub record PumpsRightly {A : Type 0} (s : State) (outcome : Outcome A) : Type 0 where
    pub entry : IfSome outcome.entry IsOfMarks
    pub beside : IsRightBeside s outcome.beside
    pub packets : AllByRecursion (IsRightPacket s) outcome.packets

  right_or : {X : Type 0} (s : State) (f : X → PumpOutcome) (o : Option X) (other : PumpOutcome) → ((x : X) → PumpsRightly s (f x)) → PumpsRightly s other → PumpsRightly s (option_map_or f o other)
  right_or s f None other some none = none
  right_or s f (Some x) other some none = some x

  right_either : (s : State) (b : Bool) (x y : PumpOutcome) → PumpsRightly s x → PumpsRightly s y → PumpsRightly s (cond b x y)
  right_either s true x y left right = left
  right_either s false x y left right = right

  no_user : (s : State) (x : Packet) → ((p : UserPacket) → x ≡ packet.User p → ⊥) → IsRightPacket s x
  no_user s x none p e t = absurd (none p e)

  one_right : (m : Manager) (x : Packet) (session : one_end.State) → ((p : UserPacket) → x ≡ packet.User p → ⊥) → PumpsRightly m.state (sending_one m x session)
  one_right m x session none = record { entry = tt; beside = tt; packets = (no_user m.state x none, tt) }

  set_up_right : (m : Manager) (owed : Internal) (session : one_end.State) → PumpsRightly m.state (sending_one m (set_up_packet owed) session)
  set_up_right m (internal.Establish e) session = one_right m (packet.Establish e) session (λ p f. let none : ⊥ = cc in none)
  set_up_right m (internal.Parameters p) session = one_right m (packet.Parameters p) session (λ q f. let none : ⊥ = cc in none)
  set_up_right m (internal.Ack h) session = one_right m (packet.Ack h) session (λ p f. let none : ⊥ = cc in none)

  all_right : (m : Manager) (now : ℕ) (session : one_end.State) (k : ℕ) (to : Guid) (cs : List Candidate) → AllByRecursion (IsRightCandidate m.state to) cs
      → PumpsRightly m.state (sending_all m now session k to cs)
  all_right m now session k to cs h = record { entry = at (length (marks_for m.state cs) == 0); beside = tt; packets = packets_right m.state to now session cs h }
    where
      at : (b : Bool) → IfSome (cond b None (Some (entry.Offered (marks_for m.state cs)))) IsOfMarks
      at true = tt
      at false = tt

  chosen_right : (m : Manager) (now : ℕ) (session : one_end.State) (k : ℕ) (to : Guid) (cs : List Candidate) → AllByRecursion (IsRightCandidate m.state to) cs
      → PumpsRightly m.state (sending_chosen m now session k to cs)
  chosen_right m now session k to [] h = right_either m.state session.owes (sending_one m (packet.Ack (stamped kind.Ack session).0) (stamped kind.Ack session).1) (answering m (Ok 0))
      (one_right m (packet.Ack (stamped kind.Ack session).0) (stamped kind.Ack session).1 (λ p f. let none : ⊥ = cc in none)) (record { entry = tt; beside = tt; packets = tt })
  chosen_right m now session k to (c ∷ cs) h = all_right m now session k to (c ∷ cs) h

  with_right : (m : Manager) (now : ℕ) (session : one_end.State) (k : ℕ) (to : Guid) (cs : List Candidate) → AllByRecursion (IsRightCandidate m.state to) cs
      → PumpsRightly m.state (pump_with m now session k to cs)
  with_right m now session k to cs h = right_either m.state (is_spent session && not (length cs == 0)) (answering m (Err fault.Spent)) (sending_chosen m now session k to (chosen session 0 0 cs))
      (record { entry = tt; beside = tt; packets = tt }) (chosen_right m now session k to (chosen session 0 0 cs) (chosen_all (IsRightCandidate m.state to) session 0 0 cs h))

  lists_at : (ps : List PlainLists) (k low : ℕ) → AllByRecursion (ArePlain own K V low) ps → IfSome (slice_get ps k) (ArePlain own K V low)
  lists_at [] k low h = tt
  lists_at (p ∷ ps) zero low h = h.0
  lists_at (p ∷ ps) (suc k) low h = lists_at ps k low h.1

  at_right : (m : Manager) (now : ℕ) (session : one_end.State) (k : ℕ) → Knows own K V m.state → PumpsRightly m.state (pump_at m now session k)
  at_right m now session k h = right_or m.state (λ (peer : Identity). option_map_or (pump_to m now session k peer) (slice_get m.state.plain k) (answering m (Ok 0))) (slice_get m.state.peers k) (answering m (Ok 0))
      (λ peer. to peer (slice_get m.state.plain k) (lists_at m.state.plain k m.state.next_number h.plain)) (record { entry = tt; beside = tt; packets = tt })
    where
      to : (peer : Identity) (o : Option PlainLists) → IfSome o (ArePlain own K V m.state.next_number) → PumpsRightly m.state (option_map_or (pump_to m now session k peer) o (answering m (Ok 0)))
      to peer None g = record { entry = tt; beside = tt; packets = tt }
      to peer (Some p) g = with_right m now session k peer.guid (candidates m.state m.rest now k peer p) (candidates_right m.state m.rest now k peer p g)

  owed_right : (m : Manager) (now : ℕ) (session : one_end.State) (owed : Option Internal) → Knows own K V m.state → PumpsRightly m.state (pump_owed m now session owed)
  owed_right m now session (Some owed) h = set_up_right m owed _
  owed_right m now session None h = right_either m.state (is_ready session.phase) (pump_at m now session (linked_peer m.state session)) (answering m (Ok 0))
      (at_right m now session (linked_peer m.state session) h) (record { entry = tt; beside = tt; packets = tt })

  pump_right : (m : Manager) (now : ℕ) → Knows own K V m.state → PumpsRightly m.state (unless m (pump_refusal m) (option_map_or (pump_linked m now) m.rest.session (answering m (Err fault.NotLinked))))
  pump_right m now h = at (pump_refusal m)
    where
      at : (o : Option PumpFault) → PumpsRightly m.state (unless m o (option_map_or (pump_linked m now) m.rest.session (answering m (Err fault.NotLinked))))
      at (Some why) = record { entry = tt; beside = tt; packets = tt }
      at None = right_or m.state (pump_linked m now) m.rest.session (answering m (Err fault.NotLinked)) (λ session. owed_right m now session (owed_by session.phase now session) h)
          (record { entry = tt; beside = tt; packets = tt })

  pub pumps_right : (m : Manager) (now : ℕ) → Knows own K V m.state → PumpsRightly m.state (outcome_of m (Pump now))
  pumps_right m now h = let g = pump_right m now h in record { entry = g.entry; beside = g.beside; packets = g.packets }
