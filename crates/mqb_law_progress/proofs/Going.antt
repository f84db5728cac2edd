-- Something goes.
use Rattle.std.proofs.Common.{◌≡◌, ℕ, ◌+◌, ◌<◌, ◌⊎◌, inl, inr, Bool, true, false, cond, not, ◌&&◌, ◌||◌, ◌==◌, ◌-◌, nat_lt, max, ◌++◌, List, [], ◌∷◌, Option, Some, None, refl, sym, subst, ◌∙◌, arith}
use Rattle.std.specs.List.{enumerate_from, filter_map, flat_map, list_any}
use Rattle.std.specs.Option.{option_map_or}
use Rattle.std.specs.Prelude.{All, Err, IsNone, Ok, length, replicate, zip}
use Rattle.std.proofs.Math.Seq.{take-append_seam}
use Rattle.std.proofs.lemmas.Bool.{and_from, and_parts, eqb-true, lt-ltb, ltb-true, or_cases, true≢false}
use Rattle.std.proofs.lemmas.List.{append_assoc, length-append}
use Rattle.std.proofs.lemmas.List.Elements.{All-head}
use Rattle.std.proofs.lemmas.Option.{get_or_from_slice_get, slice_get_within}
use Rattle.mqb_base.specs.declared.ids.Guid.{Guid}
use Rattle.mqb_orders.specs.Rows.{Row, has_unacknowledged, is_open, leads_to}
use Rattle.mqb_orders.specs.declared.kept.Kept.{Kept}
use Rattle.mqb_plain.specs.Plain.{PlainLists}
use Rattle.mqb_plain.specs.declared.outgoing.Outgoing.{Outgoing}
use Rattle.mqb_session.specs.Phases.{owed_by}
use Rattle.mqb_session.specs.Sending.{is_ready, is_spent, is_used_up, may_send}
use Rattle.mqb_session.specs.State as one_end
use Rattle.mqb_session.specs.declared.phase.Phase.{Phase}
use Rattle.mqb_session.specs.declared.phase.Phase.TheVariants.{Closed, OweEstablish, OweParameters, OweRefusal, Ready, Start, WaitEstablish, WaitParameters}
use Rattle.mqb_setup.specs.declared.internal.Internal.{Internal}
use Rattle.mqb_model.specs.calls.pump.Candidates.{Candidate, acks, candidates, of_row, plain_candidates, row_candidates, rows_owing, unsent_from, unsent_of, waiting}
use Rattle.mqb_model.specs.calls.pump.Pump.{pump, pump_at, pump_linked, pump_owed, pump_refusal, pump_with}
use Rattle.mqb_model.specs.managers.Beside.{OfExpress, OfRecoverable, Origin}
use Rattle.mqb_model.specs.managers.Manager.{Manager, linked_peer}
use Rattle.mqb_model.specs.declared.faults.PumpFault.{PumpFault}
use Rattle.mqb_model.specs.declared.faults.PumpFault.TheVariants as fault
use Rattle.mqb_model.specs.managers.Outcomes.{answering, unless}
use Rattle.mqb_model.specs.managers.Readers.{awaits, has_plain, is_outstanding, is_outstanding_to}
use Rattle.mqb_model.specs.managers.Valid.{IsUnsent}
use Rattle.mqb_model.specs.state.State.{State}
use Rattle.mqb_law_progress.specs.Progress.{HasSentNothing, MaySend}
use Rattle.mqb_law_progress.proofs.Lists.{any_wider, member_at, none_behind, none_narrower, some_kept, some_left, some_mapped, some_right}

-- ---- plain messages

some_unsent : (origin : Origin) (items : List Outgoing) → All (λ o. IsNone o.mark) items → 0 < length items
    → 0 < length (filter_map (unsent_from origin) items)
some_unsent origin [] unsent some = absurd (omega (arith, some))
some_unsent origin (o ∷ items) unsent some = at o.mark refl (All-head (λ (x : Outgoing). IsNone x.mark) o items unsent)
  where
    at : (mark : Option ℕ) → o.mark ≡ mark → IsNone o.mark → 0 < length (filter_map (unsent_from origin) (o ∷ items))
    at None is none = rw is (omega arith)
    at (Some n) is none = absurd (true≢false (subst IsNone is none))

some_plain : (p : PlainLists) → IsUnsent p → has_plain p ≡ true → 0 < length (plain_candidates p)
some_plain p unsent has = at p.recoverable refl
  where
    at : (items : List Outgoing) → p.recoverable ≡ items → 0 < length (plain_candidates p)
    at [] is = some_right (filter_map (unsent_from OfRecoverable) p.recoverable) (filter_map (unsent_from OfExpress) p.express)
        (some_unsent OfExpress p.express unsent.express (express p.express refl))
      where
        express : (others : List Outgoing) → p.express ≡ others → 0 < length p.express
        express [] none = absurd (true≢false (sym has ∙ empty))
          where
            empty : has_plain p ≡ false
            empty = rw (is, none) refl
        express (o ∷ others) some = rw some (omega arith)
    at (o ∷ items) is = some_left (filter_map (unsent_from OfRecoverable) p.recoverable) (filter_map (unsent_from OfExpress) p.express)
        (some_unsent OfRecoverable p.recoverable unsent.recoverable (rw is (omega arith)))

-- ---- rows: the first one that awaits something is open

module _ (s : State) (k : ℕ) where
  -- a row behind others of which none awaits anything is open
  open_there : (pre : List Row) (row : Row) (rest : List Row) → s.outs ≡ pre ++ row ∷ rest → list_any (awaits k) pre ≡ false → row.peer ≡ k
      → is_open s.outs (length pre) ≡ true
  open_there pre row rest are none peer = subst (λ (rows : List Row). is_open rows (length pre) ≡ true) (sym are) there
    where
      narrower : (r : Row) → (leads_to row.peer row.destination r && has_unacknowledged r) ≡ true → awaits k r ≡ true
      narrower r h =
          let parts = and_parts (leads_to row.peer row.destination r) (has_unacknowledged r) h in
          let led = and_parts _ _ parts.0 in
          and_from (r.peer == k) (has_unacknowledged r) (subst (λ (n : ℕ). (r.peer == n) ≡ true) peer led.0) parts.1

      blocked : list_any (λ (r : Row). leads_to row.peer row.destination r && has_unacknowledged r) pre ≡ false
      blocked = none_narrower (λ (r : Row). leads_to row.peer row.destination r && has_unacknowledged r) (awaits k) narrower pre none

      there : is_open (pre ++ row ∷ rest) (length pre) ≡ true
      there = rw (member_at pre row rest, take-append_seam pre (row ∷ rest), blocked) refl

  some_waiting : (index : ℕ) (row : Row) → is_open s.outs index ≡ true → awaits k row ≡ true → 0 < length (waiting s k (index, (row, 0)))
  some_waiting index row is_first awaited =
      let parts = and_parts (row.peer == k) (has_unacknowledged row) awaited in
      rw (parts.0, is_first) (some_mapped (of_row index row) (unsent_of row 0) (some_kept (λ (x : Kept). nat_lt (max row.acked 0) x.number) row.kept
      (any_wider (λ (x : Kept). nat_lt row.acked x.number) (λ (x : Kept). nat_lt (max row.acked 0) x.number) above row.kept parts.1)))
    where
      above : (x : Kept) → nat_lt row.acked x.number ≡ true → nat_lt (max row.acked 0) x.number ≡ true
      above x h = let less : row.acked < x.number = ltb-true _ _ h in lt-ltb (max row.acked 0) x.number (omega (arith, less))

  rows_go : (pre rows : List Row) → s.outs ≡ pre ++ rows → list_any (awaits k) pre ≡ false → list_any (awaits k) rows ≡ true
      → 0 < length (flat_map (waiting s k) (enumerate_from (length pre) (zip rows (replicate (length rows) 0))))
  rows_go pre [] are none some = absurd (true≢false (sym some))
  rows_go pre (row ∷ rest) are none some = at (awaits k row) refl some
      (rows_go (pre ++ row ∷ []) rest (are ∙ sym (append_assoc pre (row ∷ []) rest)))
    where
      behind : List (ℕ × (Row × ℕ))
      behind = enumerate_from (length pre + 1) (zip rest (replicate (length rest) 0))

      at : (b : Bool) → awaits k row ≡ b → (b || list_any (awaits k) rest) ≡ true
          → (list_any (awaits k) (pre ++ row ∷ []) ≡ false → list_any (awaits k) rest ≡ true
          → 0 < length (flat_map (waiting s k) (enumerate_from (length (pre ++ row ∷ [])) (zip rest (replicate (length rest) 0)))))
          → 0 < length (waiting s k (length pre, (row, 0)) ++ flat_map (waiting s k) behind)
      at true is some later =
          let peer : row.peer ≡ k = eqb-true _ _ (and_parts (row.peer == k) (has_unacknowledged row) is).0 in
          some_left (waiting s k (length pre, (row, 0))) (flat_map (waiting s k) behind)
          (some_waiting (length pre) row (open_there pre row rest are none peer) is)
      at false is some later =
          some_right (waiting s k (length pre, (row, 0))) (flat_map (waiting s k) behind)
          (subst (λ (n : ℕ). 0 < length (flat_map (waiting s k) (enumerate_from n (zip rest (replicate (length rest) 0)))))
          (length-append pre (row ∷ [])) (later (none_behind (awaits k) pre row none is) some))

-- ---- the first candidate goes

module _ (m : Manager) (now : ℕ) (session : one_end.State) (k : ℕ) (to : Guid) (may : may_send session ≡ true) where
  ready : is_ready session.phase ≡ true
  ready = (and_parts (is_ready session.phase) (not (is_used_up session) && nat_lt (session.sent - session.acked) session.peer_window) may).0

  not_spent : is_spent session ≡ false
  not_spent = at (is_used_up session) refl
      (and_parts (not (is_used_up session)) (nat_lt (session.sent - session.acked) session.peer_window)
      (and_parts (is_ready session.phase) (not (is_used_up session) && nat_lt (session.sent - session.acked) session.peer_window) may).1).0
    where
      at : (b : Bool) → is_used_up session ≡ b → not b ≡ true → (is_ready session.phase && b) ≡ false
      at true is left = absurd (true≢false (sym left))
      at false is left = none (is_ready session.phase)
        where
          none : (b : Bool) → (b && false) ≡ false
          none true = refl
          none false = refl

  first_goes : (cs : List Candidate) → 0 < length cs → 0 < length (pump_with m now session k to cs).packets
  first_goes [] some = absurd (omega (arith, some))
  first_goes (c ∷ cs) some = rw (not_spent, may) (omega arith)

-- ---- the whole call

ready_owes : (phase : Phase) (now : ℕ) (session : one_end.State) → is_ready phase ≡ true → owed_by phase now session ≡ None
ready_owes Ready now session is = refl
ready_owes Start now session is = absurd (true≢false (sym is))
ready_owes WaitEstablish now session is = absurd (true≢false (sym is))
ready_owes OweEstablish now session is = absurd (true≢false (sym is))
ready_owes OweRefusal now session is = absurd (true≢false (sym is))
ready_owes OweParameters now session is = absurd (true≢false (sym is))
ready_owes WaitParameters now session is = absurd (true≢false (sym is))
ready_owes (Closed cause) now session is = absurd (true≢false (sym is))

module _ (m : Manager) (session : one_end.State) (now : ℕ) (may : MaySend m session) (fresh : HasSentNothing m) where
  abbrev k : ℕ
  k = linked_peer m.state session

  at_peer : 0 < length (candidates m.state m.rest now k may.peer may.plain) → 0 < length (pump_at m now session k).packets
  at_peer some = rw (may.there, may.lists) (first_goes m now session k may.peer.guid may.may
      (candidates m.state m.rest now k may.peer may.plain) some)

  linked : 0 < length (pump_at m now session k).packets → 0 < length (pump_linked m now session).packets
  linked some = subst (λ (owed : Option Internal). 0 < length (pump_owed m now session owed).packets)
      (sym (ready_owes session.phase now session (ready m now session k may.peer.guid may.may)))
      (subst (λ (b : Bool). 0 < length (cond b (pump_at m now session k) (answering m (Ok 0))).packets)
      (sym (ready m now session k may.peer.guid may.may)) some)

  called : 0 < length (pump_linked m now session).packets → 0 < length (pump m now).packets
  called some = subst (λ (r : Option PumpFault). 0 < length (unless m r (option_map_or (pump_linked m now) m.rest.session (answering m (Err fault.NotLinked)))).packets)
      (sym refusal) (subst (λ (s : Option one_end.State). 0 < length (option_map_or (pump_linked m now) s (answering m (Err fault.NotLinked))).packets)
      (sym may.linked) some)
    where
      refusal : pump_refusal m ≡ None
      refusal = rw may.up refl

  -- what is outstanding is a candidate
  all_rows : list_any (awaits k) m.state.outs ≡ true → 0 < length (row_candidates m.state m.rest k)
  all_rows some = subst (λ (cursors : List ℕ). 0 < length (flat_map (waiting m.state k) (enumerate_from 0 (zip m.state.outs cursors))))
      (sym fresh.cursors) (rows_go m.state k [] m.state.outs refl refl some)

  plain_unsent : IsUnsent may.plain
  plain_unsent = subst IsUnsent (get_or_from_slice_get m.state.plain k may.plain may.plain may.lists)
      (fresh.unsent k may.plain (slice_get_within m.state.plain k may.plain may.lists))

  some_candidate : is_outstanding_to m.state k ≡ true → 0 < length (candidates m.state m.rest now k may.peer may.plain)
  some_candidate out = at (or_cases (has_plain may.plain) (list_any (awaits k) m.state.outs)
      (subst (λ (p : Option PlainLists). (option_map_or has_plain p false || list_any (awaits k) m.state.outs) ≡ true) may.lists out))
    where
      owed : List Candidate
      owed = acks m.state may.peer now m.state.next_express (rows_owing m.state m.rest may.peer.guid)

      at : (has_plain may.plain ≡ true) ⊎ (list_any (awaits k) m.state.outs ≡ true)
          → 0 < length (owed ++ plain_candidates may.plain ++ row_candidates m.state m.rest k)
      at (inl has) = some_left (owed ++ plain_candidates may.plain) (row_candidates m.state m.rest k)
          (some_right owed (plain_candidates may.plain) (some_plain may.plain plain_unsent has))
      at (inr has) = some_right (owed ++ plain_candidates may.plain) (row_candidates m.state m.rest k) (all_rows has)

  pub something_goes : is_outstanding m ≡ true → 0 < length (pump m now).packets
  something_goes out = called (linked (at_peer (some_candidate
      (subst (λ (s : Option one_end.State). option_map_or (λ x. is_outstanding_to m.state (linked_peer m.state x)) s false ≡ true) may.linked out))))
