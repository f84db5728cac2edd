-- The packets that a manager pumps are fair, and plain ones go to the peer for which their messages wait.
use Rattle.std.proofs.Common.{refl, ap, sym, subst, ◌∙◌, arith, inl, inr}
use Rattle.std.specs.List.{AllByRecursion, cons_option, enumerate_from, flat_map}
use Rattle.std.specs.Option.{option_map_or}
use Rattle.std.specs.Prelude.{[], ◌&&◌, ◌+◌, ◌++◌, ◌<◌, ◌==◌, ◌∷◌, ◌≡◌, ◌≤◌, ◌⊎◌, Bool, Err, List, None, Ok, Option, Some, cond, false, filter_map, is_none, length, map, max, nat_lt, not, slice_get, true, zip, ℕ}
use Rattle.mqb_base.specs.declared.heads.SessionHead.{SessionHead}
use Rattle.mqb_base.specs.declared.heads.TxHead.{TxHead}
use Rattle.mqb_base.specs.declared.ids.Identity.{Identity}
use Rattle.mqb_base.specs.declared.ledger.Line.{Line}
use Rattle.mqb_base.specs.declared.message.Message.{Message}
use Rattle.mqb_exactly_once.specs.Words.{In}
use Rattle.mqb_model.specs.calls.pump.Candidates.{Candidate, acks, candidates, of_row, plain_candidates, row_candidates, rows_owing, unsent_from, unsent_of, waiting}
use Rattle.mqb_model.specs.calls.pump.Choosing.{candidate_size, chosen, head_for, may_follow, session_after, with_heads}
use Rattle.mqb_model.specs.calls.pump.Pump.{PumpOutcome, carriage_for, packet_for, pump_at, pump_linked, pump_owed, pump_refusal, pump_to, sending_chosen, sending_one, set_up_packet}
use Rattle.mqb_model.specs.declared.faults.PumpFault.{PumpFault}
use Rattle.mqb_model.specs.declared.faults.PumpFault.TheVariants as fault
use Rattle.mqb_model.specs.declared.limits.TheConstants.{FIRST_EXPRESS}
use Rattle.mqb_model.specs.managers.Beside.{OfExpress, OfRecoverable}
use Rattle.mqb_model.specs.managers.Manager.{Manager, Rest, linked_peer}
use Rattle.mqb_model.specs.managers.Outcomes.{answering, unless}
use Rattle.mqb_model.specs.rules.Numbers.{express_after}
use Rattle.mqb_model.specs.state.Places.{is_express}
use Rattle.mqb_model.specs.state.State.{State}
use Rattle.mqb_orders.specs.Rows.{Row, is_open}
use Rattle.mqb_orders.specs.declared.kept.Kept.{Kept}
use Rattle.mqb_orders.specs.declared.rows.InRow.{InRow}
use Rattle.mqb_packet.specs.Plain.{carried_user}
use Rattle.mqb_packet.specs.declared.packet.Packet.{Packet}
use Rattle.mqb_packet.specs.declared.packet.Packet.TheVariants as packet
use Rattle.mqb_packet.specs.declared.packet.UserPacket.{UserPacket}
use Rattle.mqb_plain.specs.Lists.{messages_of}
use Rattle.mqb_plain.specs.Plain.{PlainLists}
use Rattle.mqb_plain.specs.declared.outgoing.Outgoing.{Outgoing}
use Rattle.mqb_session.specs.Phases.{owed_by}
use Rattle.mqb_session.specs.Sending.{is_ready, is_spent, stamped}
use Rattle.mqb_session.specs.State as one_end
use Rattle.mqb_session.specs.declared.heads.Kind.TheVariants as kind
use Rattle.mqb_setup.specs.declared.internal.Internal.{Internal}
use Rattle.mqb_setup.specs.declared.internal.Internal.TheVariants as internal
use Rattle.mqb_model.specs.calls.Call.{Pump, outcome_of}
use Rattle.mqb_history.proofs.Accounted.{IsApart, IsPacketOf, LeadsTo, Stands, resting}
use Rattle.mqb_history.proofs.Between.{all_in}
use Rattle.mqb_history.proofs.Enduring.{WaitsFor}
use Rattle.mqb_history.proofs.Fates.{IsFair, IsFairExpress, IsWaiting, PlainFair, RowFair, WaitsFairly, above_first, acknowledged_fate}
use Rattle.mqb_history.proofs.Leads.{GoesAs, RowLeads, RowsLead}
use Rattle.mqb_history.proofs.Lists.{all_append, all_filter, clash, equal_numbers, none_some, split_and}
use Rattle.mqb_history.proofs.Outside.{filtered_in}
use Rattle.mqb_history.proofs.Owned.{in_plain, waits_there}
use Rattle.mqb_history.proofs.Recorded.{IsPlainPacket}
use Rattle.mqb_history.proofs.Walks.{lists_at_peer}

user_is : (a b : UserPacket) → packet.User a ≡ packet.User b → a ≡ b
user_is a b e = cc

module _ (all mine : List Line) (past : List State) (sent : List Packet) (m : Manager) (h : Stands all mine past sent m.state) (rows : RowsLead m.state) where
  abbrev s : State
  s = m.state

  abbrev Told : Line → Type 0
  Told l = In l all

  -- a packet that goes
  abbrev pub GoesFrom : UserPacket → Type 0
  GoesFrom p = (k : ℕ) × GoesAs s.identity s.peers k p.message × LeadsTo s.peers k p.to

  -- its message waits in a list, in every field but the time to reach its queue
  abbrev pub WaitsHere : Message → Type 0
  WaitsHere x = (1 ≤ in_plain x.id s) × ((k : ℕ) × (m : Message) × WaitsFor s k m × (x ≡ record m { reach = x.reach }))

  abbrev pub IsRightPacket : UserPacket → Type 0
  IsRightPacket p = IsFair Told p.message × (IsPlainPacket p → (p.message.id.qm ≡ s.identity.guid) × IsPacketOf s.identity.guid s.peers s.next_number h.went mine p × WaitsHere p.message)
      × ((tx : TxHead) → p.tx ≡ Some tx → GoesFrom p)

  abbrev pub IsRight : Packet → Type 0
  IsRight x = (p : UserPacket) → x ≡ packet.User p → IsRightPacket p

  -- a candidate for the peer at an index
  abbrev MayGo : ℕ → Candidate → Type 0
  MayGo k c = IsFair Told c.message × (c.tx ≡ None → is_express c.message.delivery ≡ false → IsWaiting (resting s h.went mine) h.keeps.goes s.next_number k c.message × WaitsHere c.message)
      × ((tx : TxHead) → c.tx ≡ Some tx → GoesAs s.identity s.peers k c.message)

  -- Candidates.

  acks_go : (k : ℕ) (peer : Identity) (now number : ℕ) (rows : List (ℕ × InRow)) → FIRST_EXPRESS ≤ number → AllByRecursion (MayGo k) (acks s peer now number rows)
  acks_go k peer now number [] high = tt
  acks_go k peer now number (row ∷ rows) high = (
    (record { fate = acknowledged_fate Told _; express = λ e. high; durable = λ e. absurd (clash e) }, λ none e. absurd (clash e), λ tx f. absurd (none_some f)),
    acks_go k peer now (express_after number) rows (above_first number high),
  )

  recoverable_go : (k : ℕ) (os : List Outgoing) → AllByRecursion (WaitsFairly (resting s h.went mine) Told h.keeps.goes s.next_number k) os → AllByRecursion (λ o. WaitsHere o.message) os
      → AllByRecursion (MayGo k) (filter_map (unsent_from OfRecoverable) os)
  recoverable_go k [] g waits = tt
  recoverable_go k (o ∷ os) g waits = at (is_none o.mark) (recoverable_go k os g.1 waits.1)
    where
      at : (b : Bool) → AllByRecursion (MayGo k) (filter_map (unsent_from OfRecoverable) os)
          → AllByRecursion (MayGo k) (cons_option (cond b (Some (record { origin = OfRecoverable; message = o.message; tx = None })) None) (filter_map (unsent_from OfRecoverable) os))
      at true rest = ((g.0.0, λ none e. (g.0.1, waits.0), λ tx f. absurd (none_some f)), rest)
      at false rest = rest

  express_go : (k : ℕ) (os : List Outgoing) → AllByRecursion (λ o. IsFairExpress Told o.message) os → AllByRecursion (MayGo k) (filter_map (unsent_from OfExpress) os)
  express_go k [] g = tt
  express_go k (o ∷ os) g = at (is_none o.mark) (express_go k os g.1)
    where
      at : (b : Bool) → AllByRecursion (MayGo k) (filter_map (unsent_from OfExpress) os)
          → AllByRecursion (MayGo k) (cons_option (cond b (Some (record { origin = OfExpress; message = o.message; tx = None })) None) (filter_map (unsent_from OfExpress) os))
      at true rest = ((g.0.0, λ none e. absurd (clash (sym g.0.1 ∙ e)), λ tx f. absurd (none_some f)), rest)
      at false rest = rest

  kept_go : (k index : ℕ) (row : Row) (ks : List Kept) → AllByRecursion (λ x. IsFair Told x.message) ks → ((x : Kept) → In x ks → GoesAs s.identity s.peers k x.message) → AllByRecursion (MayGo k) (map (of_row index row) ks)
  kept_go k index row [] g goes = tt
  kept_go k index row (x ∷ ks) g goes = ((g.0, λ none e. absurd (none_some (sym none)), λ tx f. goes x (inl refl)), kept_go k index row ks g.1 (λ y i. goes y (inr i)))

  waiting_go : (k index : ℕ) (row : Row) (cursor : ℕ) → RowFair Told row → RowLeads s.identity s.peers row → AllByRecursion (MayGo k) (waiting s k (index, (row, cursor)))
  waiting_go k index row cursor g leads = at (row.peer == k && is_open s.outs index) refl
    where
      at : (b : Bool) → (row.peer == k && is_open s.outs index) ≡ b → AllByRecursion (MayGo k) (cond b (map (of_row index row) (unsent_of row cursor)) [])
      at true e = kept_go k index row (unsent_of row cursor) (all_filter (λ (x : Kept). IsFair Told x.message) (λ (x : Kept). nat_lt (max row.acked cursor) x.number) row.kept g)
          (λ x i. subst (λ j. GoesAs s.identity s.peers j x.message) (equal_numbers row.peer k (split_and (row.peer == k) (is_open s.outs index) e).0)
          (leads x (filtered_in (λ (y : Kept). nat_lt (max row.acked cursor) y.number) row.kept x i)))
      at false e = tt

  rows_go : (k n : ℕ) (rs : List Row) (cursors : List ℕ) → AllByRecursion (RowFair Told) rs → AllByRecursion (RowLeads s.identity s.peers) rs → AllByRecursion (MayGo k) (flat_map (waiting s k) (enumerate_from n (zip rs cursors)))
  rows_go k n [] cursors g lead = tt
  rows_go k n (row ∷ rs) [] g lead = tt
  rows_go k n (row ∷ rs) (cursor ∷ cursors) g lead = all_append (MayGo k) (waiting s k (n, (row, cursor))) (flat_map (waiting s k) (enumerate_from (n + 1) (zip rs cursors)))
      (waiting_go k n row cursor g.0 lead.0) (rows_go k (n + 1) rs cursors g.1 lead.1)

  message_in : (os : List Outgoing) (o : Outgoing) → In o os → In o.message (messages_of os)
  message_in [] o i = absurd i
  message_in (x ∷ os) o (inl e) = inl (ap (λ (y : Outgoing). y.message) e)
  message_in (x ∷ os) o (inr i) = inr (message_in os o i)

  wait_here : (k : ℕ) (p : PlainLists) → slice_get s.plain k ≡ Some p → (os : List Outgoing) → ((o : Outgoing) → In o os → In o p.recoverable) → AllByRecursion (λ o. WaitsHere o.message) os
  wait_here k p there [] sub = tt
  wait_here k p there (o ∷ os) sub = (
    (all_in (λ (x : Outgoing). 1 ≤ in_plain x.message.id s) p.recoverable o (waits_there s k p there) (sub o (inl refl)), (k, o.message, (p, there, message_in p.recoverable o (sub o (inl refl))), refl)),
    wait_here k p there os (λ x i. sub x (inr i)),
  )

  candidates_go : (rest : Rest) (now k : ℕ) (peer : Identity) (p : PlainLists) → slice_get s.plain k ≡ Some p → AllByRecursion (MayGo k) (candidates s rest now k peer p)
  candidates_go rest now k peer p there = all_append (MayGo k) (acks s peer now s.next_express (rows_owing s rest peer.guid) ++ plain_candidates p) (row_candidates s rest k)
      (all_append (MayGo k) (acks s peer now s.next_express (rows_owing s rest peer.guid)) (plain_candidates p)
      (acks_go k peer now s.next_express (rows_owing s rest peer.guid) h.keeps.express)
      (all_append (MayGo k) (filter_map (unsent_from OfRecoverable) p.recoverable) (filter_map (unsent_from OfExpress) p.express)
      (recoverable_go k p.recoverable lists.recoverable (wait_here k p there p.recoverable (λ o i. i))) (express_go k p.express lists.express)))
      (rows_go k 0 s.outs rest.cursors h.keeps.outs rows)
    where
      lists : PlainFair (resting s h.went mine) Told h.keeps.goes s.next_number k p
      lists = lists_at_peer (resting s h.went mine) Told s k p there h.keeps

  chosen_may : (k : ℕ) (session : one_end.State) (count bytes : ℕ) (xs : List Candidate) → AllByRecursion (MayGo k) xs → AllByRecursion (MayGo k) (chosen session count bytes xs)
  chosen_may k session count bytes [] g = tt
  chosen_may k session count bytes (x ∷ xs) g = at (may_follow session count bytes x) (chosen_may k (session_after session x) (count + 1) (bytes + candidate_size x) xs g.1)
    where
      at : (b : Bool) → AllByRecursion (MayGo k) (chosen (session_after session x) (count + 1) (bytes + candidate_size x) xs)
          → AllByRecursion (MayGo k) (cond b (x ∷ chosen (session_after session x) (count + 1) (bytes + candidate_size x) xs) [])
      at true rest = (g.0, rest)
      at false rest = tt

  -- Packets.

  packet_right : (now k : ℕ) (peer : Identity) → slice_get s.peers k ≡ Some peer → (c : Candidate) (head : SessionHead) → MayGo k c → IsRight (packet_for peer.guid now (c, head))
  packet_right now k peer there c head g p e = subst IsRightPacket (user_is (carried_user c.message (carriage_for peer.guid now (c, head))) p e) (
    record { fate = g.0.fate; express = g.0.express; durable = g.0.durable },
    λ plain. of (g.1 plain.0 plain.1),
    λ tx f. (k, g.2 tx f, record { peer = peer; there = there; same = refl }),
  )
    where
      sends : UserPacket
      sends = carried_user c.message (carriage_for peer.guid now (c, head))

      of : IsWaiting (resting s h.went mine) h.keeps.goes s.next_number k c.message × WaitsHere c.message → (c.message.id.qm ≡ s.identity.guid) × IsPacketOf s.identity.guid s.peers s.next_number h.went mine sends × WaitsHere sends.message
      of (w, here) = (
        w.source,
        record {
          plain = record { source = w.source; below = w.below; apart = apart w.known };
          leads = subst (λ j. LeadsTo s.peers j peer.guid) (sym w.place ∙ h.keeps.same c.message.id.number w.below) (record { peer = peer; there = there; same = refl });
        },
        (here.0, (here.1.0, here.1.1, here.1.2, ap (λ (y : Message). record y { reach = sends.message.reach }) here.1.3)),
      )
        where
          apart : ((c.message.id.number < s.next_number) × IsApart mine c.message.id) ⊎ (s.next_number ≤ c.message.id.number) → IsApart mine c.message.id
          apart (inl d) = d.1
          apart (inr le) = let lt = w.below in absurd (omega (arith, le, lt))

  packets_right : (now k : ℕ) (peer : Identity) → slice_get s.peers k ≡ Some peer → (session : one_end.State) (xs : List Candidate) → AllByRecursion (MayGo k) xs
      → AllByRecursion IsRight (map (packet_for peer.guid now) (with_heads session xs))
  packets_right now k peer there session [] g = tt
  packets_right now k peer there session (x ∷ xs) g = (packet_right now k peer there x (head_for session x) g.0, packets_right now k peer there (session_after session x) xs g.1)

  -- The whole pump.

  abbrev AreRight : PumpOutcome → Type 0
  AreRight outcome = AllByRecursion IsRight outcome.packets

  either_right : (b : Bool) (x y : PumpOutcome) → AreRight x → AreRight y → AreRight (cond b x y)
  either_right true x y left right = left
  either_right false x y left right = right

  no_user : (x : Packet) → ((p : UserPacket) → x ≡ packet.User p → ⊥) → IsRight x
  no_user x none p e = absurd (none p e)

  set_up_right : (owed : Internal) → IsRight (set_up_packet owed)
  set_up_right (internal.Establish e) = no_user (packet.Establish e) (λ p f. let none : ⊥ = cc in none)
  set_up_right (internal.Parameters p) = no_user (packet.Parameters p) (λ q f. let none : ⊥ = cc in none)
  set_up_right (internal.Ack a) = no_user (packet.Ack a) (λ p f. let none : ⊥ = cc in none)

  chosen_right : (now : ℕ) (session : one_end.State) (k : ℕ) (peer : Identity) → slice_get s.peers k ≡ Some peer → (xs : List Candidate) → AllByRecursion (MayGo k) xs
      → AreRight (sending_chosen m now session k peer.guid xs)
  chosen_right now session k peer there [] g = either_right session.owes (sending_one m (packet.Ack (stamped kind.Ack session).0) (stamped kind.Ack session).1) (answering m (Ok 0))
      (no_user (packet.Ack (stamped kind.Ack session).0) (λ p f. let none : ⊥ = cc in none), tt) tt
  chosen_right now session k peer there (x ∷ xs) g = packets_right now k peer there session (x ∷ xs) g

  to_right : (now : ℕ) (session : one_end.State) (k : ℕ) (peer : Identity) → slice_get s.peers k ≡ Some peer → (p : PlainLists) → slice_get s.plain k ≡ Some p → AreRight (pump_to m now session k peer p)
  to_right now session k peer there p inside = let cs = candidates s m.rest now k peer p in
      either_right (is_spent session && not (length cs == 0)) (answering m (Err fault.Spent)) (sending_chosen m now session k peer.guid (chosen session 0 0 cs)) tt
      (chosen_right now session k peer there (chosen session 0 0 cs) (chosen_may k session 0 0 cs (candidates_go m.rest now k peer p inside)))

  at_right : (now : ℕ) (session : one_end.State) (k : ℕ) → AreRight (pump_at m now session k)
  at_right now session k = at (slice_get s.peers k) refl
    where
      lists : (peer : Identity) → slice_get s.peers k ≡ Some peer → (o : Option PlainLists) → slice_get s.plain k ≡ o → AreRight (option_map_or (pump_to m now session k peer) o (answering m (Ok 0)))
      lists peer there None e = tt
      lists peer there (Some p) e = to_right now session k peer there p e

      at : (o : Option Identity) → slice_get s.peers k ≡ o → AreRight (option_map_or (λ peer. option_map_or (pump_to m now session k peer) (slice_get s.plain k) (answering m (Ok 0))) o (answering m (Ok 0)))
      at None e = tt
      at (Some peer) e = lists peer e (slice_get s.plain k) refl

  owed_right : (now : ℕ) (session : one_end.State) (o : Option Internal) → AreRight (pump_owed m now session o)
  owed_right now session (Some owed) = (set_up_right owed, tt)
  owed_right now session None = either_right (is_ready session.phase) (pump_at m now session (linked_peer s session)) (answering m (Ok 0)) (at_right now session (linked_peer s session)) tt

  pub pumped_right : (now : ℕ) → AllByRecursion IsRight (outcome_of m (Pump now)).packets
  pumped_right now = at (pump_refusal m) m.rest.session
    where
      at : (o : Option PumpFault) (session : Option one_end.State) → AreRight (unless m o (option_map_or (pump_linked m now) session (answering m (Err fault.NotLinked))))
      at (Some why) session = tt
      at None None = tt
      at None (Some session) = owed_right now session (owed_by session.phase now session)
