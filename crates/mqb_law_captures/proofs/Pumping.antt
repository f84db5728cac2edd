-- Pumps: what is sent is what the session sends there, and its links fit those that were sent before.
use Rattle.std.proofs.Common.{refl, ap, sym, subst, ◌∙◌, inl, inr, arith}
use Rattle.std.proofs.lemmas.Bool.{and_parts}
use Rattle.std.proofs.lemmas.List.{append-nil, append_assoc}
use Rattle.std.specs.Option.{option_map_or}
use Rattle.std.specs.Prelude.{[], ◌&&◌, ◌++◌, ◌-◌, ◌==◌, ◌∷◌, ◌≡◌, ◌⊎◌, Bool, Err, IfSome, List, None, Ok, Option, Result, Some, cond, false, length, slice_set, map, not, nat_lt, option_and_then, option_map, slice_get, true, unwrap_or, ℕ}
use Rattle.mqb_base.specs.Same.{same_guid}
use Rattle.mqb_base.specs.declared.class.TheConstants.Class.{NORMAL}
use Rattle.mqb_base.specs.declared.heads.SessionHead.{SessionHead}
use Rattle.mqb_base.specs.declared.heads.TxHead.{TxHead}
use Rattle.mqb_base.specs.declared.ids.Guid.{Guid}
use Rattle.mqb_base.specs.declared.ids.Identity.{Identity}
use Rattle.mqb_orders.specs.Rows.{Row, link_before}
use Rattle.mqb_packet.specs.Plain.{carried_user}
use Rattle.mqb_packet.specs.declared.packet.Packet.{Packet}
use Rattle.mqb_packet.specs.declared.packet.Packet.TheVariants as packet
use Rattle.mqb_packet.specs.declared.packet.UserPacket.{UserPacket}
use Rattle.mqb_plain.specs.Plain.{PlainLists}
use Rattle.mqb_session.specs.Hearing.{after_owed}
use Rattle.mqb_session.specs.Phases.{owed_by}
use Rattle.mqb_session.specs.Sending.{is_ready, is_spent, is_used_up, may_send, stamped}
use Rattle.mqb_session.specs.State as one_end
use Rattle.mqb_session.specs.declared.heads.Kind.{Kind}
use Rattle.mqb_session.specs.declared.heads.Kind.TheVariants as kind
use Rattle.mqb_session.specs.declared.phase.Phase.{Phase}
use Rattle.mqb_session.specs.declared.phase.Phase.TheVariants as phase
use Rattle.mqb_setup.specs.declared.internal.Internal.{Internal}
use Rattle.mqb_setup.specs.declared.internal.Internal.TheVariants as part
use Rattle.mqb_model.specs.calls.pump.Candidates.{Candidate, candidates}
use Rattle.mqb_model.specs.calls.pump.Choosing.{chosen, head_for, kind_of, session_after, session_behind, with_heads}
use Rattle.mqb_model.specs.calls.pump.Pump.{PumpOutcome, carriage_for, marks_for, offered_entry, origin_of, packet_for, pump, pump_at, pump_linked, pump_owed, pump_refusal, pump_to, pump_with, sending_ack, sending_all, sending_chosen, sending_one, set_up_packet, settled, settled_as}
use Rattle.mqb_model.specs.declared.faults.PumpFault.{PumpFault}
use Rattle.mqb_model.specs.declared.faults.PumpFault.TheVariants as fault
use Rattle.mqb_model.specs.managers.Beside.{OfExpress, OfRecoverable, OfRow, Origin, Owed}
use Rattle.mqb_model.specs.managers.Manager.{Manager, Rest, linked_peer}
use Rattle.mqb_model.specs.managers.Outcomes.{answering, recorded, state_after, succeeded, unless}
use Rattle.mqb_model.specs.records.Record as entry
use Rattle.mqb_model.specs.state.Resolving.{peer_known}
use Rattle.mqb_capture.specs.Events.{Event, Sent}
use Rattle.mqb_capture.specs.Grammar.{Head}
use Rattle.mqb_capture.specs.Lawful.{GoesBetween, IsBetween, MayCome, kind_for, sent}
use Rattle.mqb_capture.specs.Lawful as capture
use Rattle.mqb_capture.specs.Links.{link_by, link_of, links}
use Rattle.mqb_capture.specs.declared.link.Link.{Link}
use Rattle.mqb_capture.specs.declared.answers.Way.TheVariants as way
use Rattle.mqb_capture.proofs.Moments.{moments}
use Rattle.mqb_capture.proofs.Sames.{tests_guid}
use Rattle.mqb_law_captures.specs.Traces.{given}
use Rattle.mqb_law_captures.proofs.Candidates.{Go, GoInTurn, IsFrom, IsOfRow, MayGo, all_go, all_precede, chosen_go, chosen_in_turn, cursors_after, go_in_turn}
use Rattle.mqb_law_captures.proofs.Courses.{IsToPeer, MayBeLawful, Runs, Stands, after_call, linked_event, unlinked_more}
use Rattle.mqb_law_captures.proofs.Links.{AreNoted, Rising, joins, noted_at, noted_joined, noted_raised, set_hit}
use Rattle.mqb_law_captures.proofs.Sessions.{IsLost, IsPeered, IsSameSide, is_lost, lost_owed, lost_still, owed_open, peered_owed, peered_still, same_side, side_then, stamped_side}
use Rattle.mqb_law_captures.proofs.States.{Leaves, WaitsOwn, leaves_same, leaves_then, marks_leave, notes_leave}
use Rattle.mqb_law_captures.proofs.Lists.{first_passes, get_holds, some_is}

-- One candidate goes.

module _ (h : Head) (rows : List Row) (rise : Rising rows) (now : ℕ) (to : Guid) (is_to : to ≡ h.peer) where
  abbrev user_for : Candidate → SessionHead → UserPacket
  user_for c head = carried_user c.message (carriage_for to now (c, head))

  -- what is known behind some
  pub record Sends (s : one_end.State) (cursors : List ℕ) (events : List Event) : Type 0 where
    pub runs : Runs h s events
    pub noted : AreNoted (links way.Sent events) rows cursors

  module _ (s : one_end.State) (cursors : List ℕ) (events : List Event) (c : Candidate) (k : Sends s cursors events) (go : MayGo h.own rows cursors c) (may : may_send s ≡ true) where
    abbrev event : Event
    event = Sent (packet_for to now (c, head_for s c))

    to_peer : IsToPeer h event
    to_peer = record { session = refl; source = go.message.0; target = is_to }

    ready : is_ready s.phase ≡ true
    ready = (and_parts (is_ready s.phase) (not (is_used_up s) && nat_lt (s.sent - s.acked) s.peer_window) may).0

    may_come : MayCome h s event
    may_come = (ready, may, ap (λ (x : Kind). Some (stamped x s).0) (sym go.message.1))

    after : capture.session_after h s event ≡ session_after s c
    after = ap (λ (x : Kind). (stamped x s).1) go.message.1

    -- it has no link
    none_linked : c.tx ≡ None → link_by way.Sent event ≡ None
    none_linked e = at (c.message.class.0 == NORMAL.0) c.tx e
      where
        at : (b : Bool) (o : Option TxHead) → o ≡ None → cond b (option_map {U = Link} (λ tx. record { message = (user_for c (head_for s c)).message; tx = tx }) o) None ≡ None
        at true o f = ap (option_map {U = Link} (λ tx. record { message = (user_for c (head_for s c)).message; tx = tx })) f
        at false o f = refl

    without_link : (o : List ℕ) → o ≡ cursors → link_by way.Sent event ≡ None → Sends (session_after s c) o (events ++ event ∷ [])
    without_link o e none = let more = unlinked_more h s (session_after s c) events event k.runs may_come after to_peer none in
        record { runs = more.0; noted = subst (λ (ls : List Link). AreNoted ls rows o) (sym more.1) (subst (AreNoted (links way.Sent events) rows) (sym e) k.noted) }

    -- it is of a row
    module _ (i n : ℕ) (r : IsOfRow rows cursors c.tx i n) where
      abbrev link : Link
      link = record { message = (user_for c (head_for s c)).message; tx = record { sequence = r.row.sequence; number = n; previous = link_before r.row.acked r.row.kept n } }

      raised : AreNoted (links way.Sent events) rows (slice_set cursors i n)
      raised = noted_raised (links way.Sent events) rows cursors i r.cursor n r.at (let less = r.above in omega (arith, less)) k.noted

      with_link : (b : Bool) → link_by way.Sent event ≡ cond b (Some link) None → Sends (session_after s c) (slice_set cursors i n) (events ++ event ∷ [])
      with_link true e = let more = linked_event h s (session_after s c) events event link k.runs may_come after to_peer e
          (joins (links way.Sent events) link r.row r.cursor refl refl r.unacked r.above (noted_at (links way.Sent events) rows cursors i r.row r.cursor r.there r.at k.noted)) in
          record {
            runs = more.0;
            noted = subst (λ (ls : List Link). AreNoted ls rows (slice_set cursors i n)) (sym more.1)
                (noted_joined (links way.Sent events) link rows (slice_set cursors i n) i r.row n rise r.there (set_hit cursors i r.cursor n r.at) refl (omega arith) (inr r.kept) raised);
          }
      with_link false e = let more = unlinked_more h s (session_after s c) events event k.runs may_come after to_peer e in
          record { runs = more.0; noted = subst (λ (ls : List Link). AreNoted ls rows (slice_set cursors i n)) (sym more.1) raised }

      linked_by : link_by way.Sent event ≡ cond (c.message.class.0 == NORMAL.0) (Some link) None
      linked_by = at (c.message.class.0 == NORMAL.0)
        where
          at : (b : Bool) → cond b (option_map {U = Link} (λ tx. record { message = (user_for c (head_for s c)).message; tx = tx }) c.tx) None ≡ cond b (Some link) None
          at true = ap (option_map {U = Link} (λ tx. record { message = (user_for c (head_for s c)).message; tx = tx })) r.head
          at false = refl

      of_row : Sends (session_after s c) (slice_set cursors i n) (events ++ event ∷ [])
      of_row = with_link (c.message.class.0 == NORMAL.0) linked_by

    one_sent : Sends (session_after s c) (cursors_after cursors c.origin) (events ++ event ∷ [])
    one_sent = at c.origin go.from
      where
        at : (o : Origin) → IsFrom rows cursors c.tx o → Sends (session_after s c) (cursors_after cursors o) (events ++ event ∷ [])
        at (OfRow i n) f = of_row i n f
        at (Owed row) f = without_link cursors refl (none_linked f)
        at OfRecoverable f = without_link cursors refl (none_linked f)
        at OfExpress f = without_link cursors refl (none_linked f)

  all_sent : (s : one_end.State) (rest : Rest) (events : List Event) (cs : List Candidate) → Sends s rest.cursors events → GoInTurn h.own rows rest.cursors cs → Go s cs
      → Sends (session_behind s cs) (settled rest cs).cursors (events ++ given (map (packet_for to now) (with_heads s cs)))
  all_sent s rest events [] k go may = subst (Sends s rest.cursors) (sym (append-nil events)) k
  all_sent s rest events (c ∷ cs) k go may =
      subst (Sends (session_behind (session_after s c) cs) (settled (settled_as rest c.origin) cs).cursors)
      (append_assoc events (Sent (packet_for to now (c, head_for s c)) ∷ []) (given (map (packet_for to now) (with_heads (session_after s c) cs))))
      (all_sent (session_after s c) (settled_as rest c.origin) (events ++ Sent (packet_for to now (c, head_for s c)) ∷ []) cs
      (subst (λ (xs : List ℕ). Sends (session_after s c) xs (events ++ Sent (packet_for to now (c, head_for s c)) ∷ [])) (cursors_are rest c.origin) (first s rest.cursors events c k go.0 may.0))
      (subst (λ (xs : List ℕ). GoInTurn h.own rows xs cs) (cursors_are rest c.origin) go.1) may.1)
    where
      cursors_are : (r : Rest) (o : Origin) → cursors_after r.cursors o ≡ (settled_as r o).cursors
      cursors_are r (OfRow i n) = refl
      cursors_are r (Owed row) = refl
      cursors_are r OfRecoverable = refl
      cursors_are r OfExpress = refl

      first : (s : one_end.State) (cursors : List ℕ) (events : List Event) (c : Candidate) → Sends s cursors events → MayGo h.own rows cursors c → may_send s ≡ true
          → Sends (session_after s c) (cursors_after cursors c.origin) (events ++ Sent (packet_for to now (c, head_for s c)) ∷ [])
      first s cursors events c k go may = one_sent s cursors events c k go may

-- What a pump comes to.

abbrev pub Comes : Head → Manager → List Event → PumpOutcome → Type 0
Comes h m events outcome = MayBeLawful h (succeeded m outcome) (events ++ given outcome.packets)

-- nothing changes
nothing_comes : (h : Head) (m : Manager) (events : List Event) (answer : Result ℕ PumpFault) → MayBeLawful h m events → Comes h m events (answering m answer)
nothing_comes h m events answer (inl lost) = inl lost
nothing_comes h m events answer (inr s) = inr (subst (Stands h (succeeded m (answering m answer))) (sym (append-nil events))
    (after_call h m (answering m answer) s.session events s.is s.peered s.runs s.noted (leaves_same h.own m.state) s.owner s.up))

sides_behind : (s : one_end.State) (cs : List Candidate) → IsSameSide s (session_behind s cs)
sides_behind s [] = same_side s
sides_behind s (c ∷ cs) = side_then s (session_after s c) (session_behind (session_after s c) cs) (stamped_side (kind_of c.origin) s) (sides_behind (session_after s c) cs)

module _ (h : Head) (m : Manager) (events : List Event) (now : ℕ) (s : one_end.State) (is : m.rest.session ≡ Some s) where
  abbrev Goes : PumpOutcome → Type 0
  Goes outcome = Comes h m events outcome

  -- A lost session stays lost.

  module _ (lost : IsLost h.peer (Some s)) where
    lost_nothing : (answer : Result ℕ PumpFault) → Goes (answering m answer)
    lost_nothing answer = inl (subst (IsLost h.peer) (sym is) lost)

    lost_ack : Goes (sending_ack m s)
    lost_ack = at s.owes
      where
        at : (b : Bool) → Goes (cond b (sending_one m (packet.Ack (stamped kind.Ack s).0) (stamped kind.Ack s).1) (answering m (Ok 0)))
        at true = inl (lost_still h.peer s (stamped kind.Ack s).1 (stamped_side kind.Ack s) lost)
        at false = lost_nothing (Ok 0)

    lost_chosen : (k : ℕ) (to : Guid) (cs : List Candidate) → Goes (sending_chosen m now s k to cs)
    lost_chosen k to [] = lost_ack
    lost_chosen k to (c ∷ cs) = inl (lost_still h.peer s (session_behind s (c ∷ cs)) (sides_behind s (c ∷ cs)) lost)

    lost_with : (k : ℕ) (to : Guid) (cs : List Candidate) → Goes (pump_with m now s k to cs)
    lost_with k to cs = at (is_spent s && not (length cs == 0))
      where
        at : (b : Bool) → Goes (cond b (answering m (Err fault.Spent)) (sending_chosen m now s k to (chosen s 0 0 cs)))
        at true = lost_nothing (Err fault.Spent)
        at false = lost_chosen k to (chosen s 0 0 cs)

    lost_at : (k : ℕ) → Goes (pump_at m now s k)
    lost_at k = at (slice_get m.state.peers k) (slice_get m.state.plain k)
      where
        at : (peer : Option Identity) (plain : Option PlainLists)
            → Goes (option_map_or (λ peer. option_map_or (pump_to m now s k peer) plain (answering m (Ok 0))) peer (answering m (Ok 0)))
        at None plain = lost_nothing (Ok 0)
        at (Some peer) None = lost_nothing (Ok 0)
        at (Some peer) (Some p) = lost_with k peer.guid (candidates m.state m.rest now k peer p)

    lost_goes : Goes (pump_linked m now s)
    lost_goes = at (owed_by s.phase now s)
      where
        ready : (b : Bool) → Goes (cond b (pump_at m now s (linked_peer m.state s)) (answering m (Ok 0)))
        ready true = lost_at (linked_peer m.state s)
        ready false = lost_nothing (Ok 0)

        at : (o : Option Internal) → Goes (pump_owed m now s o)
        at (Some owed) = inl (lost_owed h.peer now s lost)
        at None = ready (is_ready s.phase)

  -- Another one sends what it may.

  module _ (k : Stands h m events) (same : k.session ≡ s) where
    runs : Runs h s events
    runs = subst (λ (x : one_end.State). Runs h x events) same k.runs

    peered : IsPeered h.peer s
    peered = subst (IsPeered h.peer) same k.peered

    stands_nothing : (answer : Result ℕ PumpFault) → Goes (answering m answer)
    stands_nothing answer = nothing_comes h m events answer (inr k)

    -- one packet of the session itself
    one_goes : (p : Packet) (t : one_end.State) → MayCome h s (Sent p) → capture.session_after h s (Sent p) ≡ t → IsToPeer h (Sent p) → link_of p ≡ None → IsPeered h.peer t → Goes (sending_one m p t)
    one_goes p t may after to none peer = let more = unlinked_more h s t events (Sent p) runs may after to none in
        inr (after_call h m (sending_one m p t) t (events ++ Sent p ∷ []) refl peer more.0 (subst (λ (ls : List Link). AreNoted ls m.state.outs m.rest.cursors) (sym more.1) k.noted)
        (leaves_same h.own m.state) k.owner k.up)

    -- set-up packets

    owed_goes : (owed : Internal) → owed_by s.phase now s ≡ Some owed → Goes (sending_one m (set_up_packet owed) (after_owed now s))
    owed_goes owed e = by (owed_open s.phase s.role now s owed e)
      where
        refuses : s.phase ≡ phase.OweRefusal → IsLost h.peer (Some (after_owed now s))
        refuses f = lost_owed h.peer now s (inl (ap is_lost f))

        never_ack : (ph : Phase) (x : SessionHead) → owed_by ph now s ≡ Some (part.Ack x) → ⊥
        never_ack phase.Start x f = let none : ⊥ = cc in none
        never_ack phase.OweEstablish x f = let none : ⊥ = cc in none
        never_ack phase.OweRefusal x f = let none : ⊥ = cc in none
        never_ack phase.OweParameters x f = let none : ⊥ = cc in none
        never_ack phase.WaitEstablish x f = let none : ⊥ = cc in none
        never_ack phase.WaitParameters x f = let none : ⊥ = cc in none
        never_ack phase.Ready x f = let none : ⊥ = cc in none
        never_ack (phase.Closed why) x f = let none : ⊥ = cc in none

        open_still : (t : one_end.State) → after_owed now s ≡ t → capture.cause_of (after_owed now s).phase ≡ None → capture.cause_of t.phase ≡ None
        open_still t f on = ap (λ (x : one_end.State). capture.cause_of x.phase) (sym f) ∙ on

        at : (x : Internal) → owed_by s.phase now s ≡ Some x → capture.cause_of (after_owed now s).phase ≡ None → Goes (sending_one m (set_up_packet x) (after_owed now s))
        at (part.Establish g) f on = let moment = (moments s now).establish g f in
            one_goes (packet.Establish g) (after_owed now s) ((moment.0, open_still (after_owed g.stamp s) moment.1 on), tt, tt) (sym moment.1) tt refl (peered_owed h.peer now s (part.Establish g) f peered)
        at (part.Parameters g) f on = let moment = (moments s now).parameters g f in
            one_goes (packet.Parameters g) (after_owed now s) ((moment.0, open_still (after_owed 0 s) moment.1 on), tt, tt) (sym moment.1) tt refl (peered_owed h.peer now s (part.Parameters g) f peered)
        at (part.Ack x) f on = absurd (never_ack s.phase x f)

        by : (s.phase ≡ phase.OweRefusal) ⊎ (capture.cause_of (after_owed now s).phase ≡ None) → Goes (sending_one m (set_up_packet owed) (after_owed now s))
        by (inl f) = inl (refuses f)
        by (inr on) = at owed e on

    -- what a session that is ready sends

    module _ (ready : is_ready s.phase ≡ true) where
      ack_goes : Goes (sending_ack m s)
      ack_goes = at s.owes
        where
          at : (b : Bool) → Goes (cond b (sending_one m (packet.Ack (stamped kind.Ack s).0) (stamped kind.Ack s).1) (answering m (Ok 0)))
          at true = one_goes (packet.Ack (stamped kind.Ack s).0) (stamped kind.Ack s).1 (ready, tt, refl) refl tt refl (peered_still h.peer s (stamped kind.Ack s).1 (stamped_side kind.Ack s) peered)
          at false = stands_nothing (Ok 0)

      offered_leaves : (j : ℕ) (cs : List Candidate) → Leaves h.own m.state (recorded m.state (offered_entry m.state cs))
      offered_leaves j cs = at (length (marks_for m.state cs) == 0)
        where
          at : (b : Bool) → Leaves h.own m.state (recorded m.state (cond b None (Some (entry.Offered (marks_for m.state cs)))))
          at true = leaves_same h.own m.state
          at false = marks_leave h.own m.state (marks_for m.state cs)

      all_goes : (j : ℕ) (to : Guid) (cs : List Candidate) → to ≡ h.peer → GoInTurn h.own m.state.outs m.rest.cursors cs → Go s cs → Goes (sending_all m now s j to cs)
      all_goes j to cs is_to go may = let sends = all_sent h m.state.outs k.owner.ordinals now to is_to s m.rest events cs (record { runs = runs; noted = k.noted }) go may in
          inr (after_call h m (sending_all m now s j to cs) (session_behind s cs) (events ++ given (map (packet_for to now) (with_heads s cs))) refl
          (peered_still h.peer s (session_behind s cs) (sides_behind s cs) peered) sends.runs sends.noted
          (leaves_then h.own m.state (recorded m.state (offered_entry m.state cs)) (state_after m (sending_all m now s j to cs)) (offered_leaves j cs)
          (notes_leave h.own j (recorded m.state (offered_entry m.state cs)) (map origin_of (with_heads s cs)))) k.owner k.up)

      chosen_goes : (j : ℕ) (to : Guid) (cs : List Candidate) → to ≡ h.peer → GoInTurn h.own m.state.outs m.rest.cursors cs → Go s cs → Goes (sending_chosen m now s j to cs)
      chosen_goes j to [] is_to go may = ack_goes
      chosen_goes j to (c ∷ cs) is_to go may = all_goes j to (c ∷ cs) is_to go may

      with_goes : (j : ℕ) (to : Guid) (cs : List Candidate) → to ≡ h.peer → GoInTurn h.own m.state.outs m.rest.cursors cs → Goes (pump_with m now s j to cs)
      with_goes j to cs is_to go = at (is_spent s && not (length cs == 0))
        where
          at : (b : Bool) → Goes (cond b (answering m (Err fault.Spent)) (sending_chosen m now s j to (chosen s 0 0 cs)))
          at true = stands_nothing (Err fault.Spent)
          at false = chosen_goes j to (chosen s 0 0 cs) is_to (chosen_in_turn h.own m.state.outs m.rest.cursors s 0 0 cs go) (chosen_go s 0 0 cs)

      -- the peer at the index of the linked one has its GUID
      past_end : (xs : List Identity) → slice_get xs (length xs) ≡ None
      past_end [] = refl
      past_end (x ∷ xs) = past_end xs

      ready_peer : IsPeered h.peer s → s.peer ≡ Some h.peer
      ready_peer (inl p) = p.0
      ready_peer (inr p) = absurd (let f : is_ready phase.WaitEstablish ≡ true = ap is_ready (sym p.0) ∙ ready in let none : ⊥ = cc in none)

      peer_guid : (peer : Identity) → slice_get m.state.peers (linked_peer m.state s) ≡ Some peer → peer.guid ≡ h.peer
      peer_guid peer e = at (peer_known m.state h.peer) refl
          (ap (λ (o : Option Guid). slice_get m.state.peers (unwrap_or (option_and_then (peer_known m.state) o) (length m.state.peers))) (sym (ready_peer peered)) ∙ e)
        where
          at : (o : Option ℕ) → peer_known m.state h.peer ≡ o → slice_get m.state.peers (unwrap_or o (length m.state.peers)) ≡ Some peer → peer.guid ≡ h.peer
          at None f g = absurd (let same = sym (past_end m.state.peers) ∙ g in let none : ⊥ = cc in none)
          at (Some j) f g = (tests_guid peer.guid h.peer).holds
              (subst (λ (o : Option Identity). IfSome o (λ (p : Identity). same_guid p.guid h.peer ≡ true)) (ap (option_and_then (slice_get m.state.peers)) f ∙ g)
              (first_passes (λ (p : Identity). same_guid p.guid h.peer) m.state.peers))

      at_goes : Goes (pump_at m now s (linked_peer m.state s))
      at_goes = at (slice_get m.state.peers j) refl
        where
          j : ℕ
          j = linked_peer m.state s

          lists : (peer : Identity) → peer.guid ≡ h.peer → (o : Option PlainLists) → IfSome o (WaitsOwn h.own) → Goes (option_map_or (pump_to m now s j peer) o (answering m (Ok 0)))
          lists peer is_to None waits = stands_nothing (Ok 0)
          lists peer is_to (Some p) waits = with_goes j peer.guid (candidates m.state m.rest now j peer p) is_to
              (go_in_turn h.own m.state.outs m.rest.cursors (candidates m.state m.rest now j peer p)
              (all_go h.own m.state m.rest k.owner.identity now j peer p waits k.owner.kept) (all_precede h.own m.state m.rest k.owner.identity now j peer p k.owner.rises))

          at : (o : Option Identity) → slice_get m.state.peers j ≡ o
              → Goes (option_map_or (λ peer. option_map_or (pump_to m now s j peer) (slice_get m.state.plain j) (answering m (Ok 0))) o (answering m (Ok 0)))
          at None e = stands_nothing (Ok 0)
          at (Some peer) e = lists peer (peer_guid peer e) (slice_get m.state.plain j) (get_holds (WaitsOwn h.own) m.state.plain j k.owner.plain)

    stands_goes : Goes (pump_linked m now s)
    stands_goes = at (owed_by s.phase now s) refl
      where
        by_phase : (b : Bool) → is_ready s.phase ≡ b → Goes (cond b (pump_at m now s (linked_peer m.state s)) (answering m (Ok 0)))
        by_phase true e = at_goes e
        by_phase false e = stands_nothing (Ok 0)

        at : (o : Option Internal) → owed_by s.phase now s ≡ o → Goes (pump_owed m now s o)
        at (Some owed) e = owed_goes owed e
        at None e = by_phase (is_ready s.phase) refl

-- A pump of a manager that may come to be lawful.

linked_comes : (h : Head) (m : Manager) (events : List Event) (now : ℕ) (o : Option one_end.State) → m.rest.session ≡ o → MayBeLawful h m events
    → Comes h m events (option_map_or (pump_linked m now) o (answering m (Err fault.NotLinked)))
linked_comes h m events now None e may = nothing_comes h m events (Err fault.NotLinked) may
linked_comes h m events now (Some s) e (inl lost) = lost_goes h m events now s e (subst (IsLost h.peer) e lost)
linked_comes h m events now (Some s) e (inr k) = stands_goes h m events now s e k (some_is k.session s (sym k.is ∙ e))

pub pump_comes : (h : Head) (m : Manager) (events : List Event) (now : ℕ) → MayBeLawful h m events → Comes h m events (pump m now)
pump_comes h m events now may = at (pump_refusal m)
  where
    at : (o : Option PumpFault) → Comes h m events (unless m o (option_map_or (pump_linked m now) m.rest.session (answering m (Err fault.NotLinked))))
    at (Some why) = nothing_comes h m events (Err why) may
    at None = linked_comes h m events now m.rest.session refl may
