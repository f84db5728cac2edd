-- A manager that has nothing for its peer sends nothing in a new connection.
use Rattle.std.proofs.Common.{◌≡◌, ℕ, ◌+◌, ◌<◌, ◌==◌, ◌&&◌, ◌||◌, Bool, true, false, cond, max, nat_lt, not, ◌++◌, List, [], ◌∷◌, Option, Some, None, refl, sym, ap, ◌∙◌, arith}
use Rattle.std.proofs.lemmas.Bool.{true≢false}
use Rattle.std.proofs.lemmas.Bool.Decides.{nat_tests}
use Rattle.std.specs.List.{enumerate_from, filter_map, flat_map, list_any}
use Rattle.std.specs.Option.{option_map_or}
use Rattle.std.specs.Prelude.{Err, filter, length, map, replicate, slice_get, zip}
use Rattle.mqb_base.specs.declared.ids.Guid.{Guid}
use Rattle.mqb_base.specs.declared.ids.Identity.{Identity}
use Rattle.mqb_orders.specs.Rows.{Row, has_unacknowledged, is_open}
use Rattle.mqb_orders.specs.declared.kept.Kept.{Kept}
use Rattle.mqb_orders.specs.declared.rows.InRow.{InRow}
use Rattle.mqb_plain.specs.Plain.{PlainLists}
use Rattle.mqb_plain.specs.declared.outgoing.Outgoing.{Outgoing}
use Rattle.mqb_session.specs.State as one_end
use Rattle.mqb_model.specs.calls.pump.Candidates.{acks, candidates, of_row, owed_to, plain_candidates, row_candidates, unsent_of, waiting}
use Rattle.mqb_model.specs.calls.pump.Pump.{pump, pump_at, pump_owed, pump_to, pump_with, sending_ack, sending_one}
use Rattle.mqb_model.specs.declared.faults.PumpFault.TheVariants as fault
use Rattle.mqb_packet.specs.declared.packet.Packet.TheVariants as packet
use Rattle.mqb_session.specs.Phases.{owed_by}
use Rattle.mqb_session.specs.Sending.{is_ready, is_spent, stamped}
use Rattle.mqb_session.specs.declared.heads.Kind.TheVariants as kind
use Rattle.mqb_session.specs.declared.phase.Phase.TheVariants.{Ready}
use Rattle.mqb_model.specs.managers.Manager.{Manager, linked_peer}
use Rattle.mqb_model.specs.managers.Outcomes.{answering, succeeded}
use Rattle.mqb_model.specs.managers.Readers.{awaits, has_plain, is_outstanding_to}
use Rattle.mqb_model.specs.state.State.{State}
use Rattle.mqb_law_meetings.proofs.Setting.{again, grown_once, linked_with, sends_nothing}

neither : (a b : Bool) → (a || b) ≡ false → (a ≡ false) × (b ≡ false)
neither true b e = absurd (let no : ⊥ = cc in no)
neither false b e = (refl, e)

-- no row owes an acknowledgement
pub none_owing : (peer : Guid) (rows : List InRow) (n : ℕ) → filter_map (owed_to peer) (enumerate_from n (zip rows (replicate (length rows) false))) ≡ []
none_owing peer [] n = refl
none_owing peer (r ∷ rows) n = none_owing peer rows (n + 1)

positive : (n : ℕ) → 0 < n → not (n == 0) ≡ true
positive n h = grind (arith, nat_tests)

-- no plain message waits
none_plain : (p : PlainLists) → has_plain p ≡ false → plain_candidates p ≡ []
none_plain p none = at p.recoverable refl p.express refl
  where
    at : (xs : List Outgoing) → p.recoverable ≡ xs → (ys : List Outgoing) → p.express ≡ ys → plain_candidates p ≡ []
    at [] is [] are = rw (is, are) refl
    at (x ∷ xs) is ys are = absurd (true≢false (sym some ∙ none))
      where
        some : has_plain p ≡ true
        some = rw (is, are) (positive (length (x ∷ xs) + length ys) (omega arith))
    at [] is (y ∷ ys) are = absurd (true≢false (sym some ∙ none))
      where
        some : has_plain p ≡ true
        some = rw (is, are) (positive (0 + length (y ∷ ys)) (omega arith))

-- no number of a row does
none_above : (acked : ℕ) (kept : List Kept) → list_any (λ k. nat_lt acked k.number) kept ≡ false → filter (λ k. nat_lt (max acked 0) k.number) kept ≡ []
none_above acked [] none = refl
none_above acked (k ∷ kept) none =
    let parts = neither (nat_lt acked k.number) (list_any (λ x. nat_lt acked x.number) kept) none in
    let rest = none_above acked kept parts.1 in
    let same : max acked 0 ≡ acked = omega arith in
    let lower : nat_lt (max acked 0) k.number ≡ false = ap (λ n. nat_lt n k.number) same ∙ parts.0 in
    rw (lower, rest) refl

none_waiting : (s : State) (k : ℕ) (rows : List Row) (n : ℕ) → list_any (awaits k) rows ≡ false
    → flat_map (waiting s k) (enumerate_from n (zip rows (replicate (length rows) 0))) ≡ []
none_waiting s k [] n none = refl
none_waiting s k (row ∷ rows) n none = ap (λ xs. xs ++ flat_map (waiting s k) (enumerate_from (n + 1) (zip rows (replicate (length rows) 0)))) here
    ∙ none_waiting s k rows (n + 1) parts.1
  where
    parts : ((row.peer == k && has_unacknowledged row) ≡ false) × (list_any (awaits k) rows ≡ false)
    parts = neither (row.peer == k && has_unacknowledged row) (list_any (awaits k) rows) none

    here : waiting s k (n, (row, 0)) ≡ []
    here = at (row.peer == k) (is_open s.outs n) parts.0
      where
        at : (b c : Bool) → (b && has_unacknowledged row) ≡ false → cond (b && c) (map (of_row n row) (unsent_of row 0)) [] ≡ []
        at true true none = ap (map (of_row n row)) (none_above row.acked row.kept none)
        at true false none = refl
        at false c none = refl

pub and_false : (b : Bool) → (b && false) ≡ false
and_false true = refl
and_false false = refl

module _ (s : State) (x : one_end.State) (now k : ℕ) (peer : Identity) (phase : x.phase ≡ Ready) (owes : x.owes ≡ false) (linked : linked_peer s x ≡ k)
    (there : slice_get s.peers k ≡ Some peer) where
  abbrev m : Manager
  m = linked_with s (Some x)

  none_could : (p : PlainLists) → has_plain p ≡ false → list_any (awaits k) s.outs ≡ false → candidates s m.rest now k peer p ≡ []
  none_could p plain rows = ap (λ bs. acks s peer now s.next_express (filter_map (owed_to peer.guid) (enumerate_from 0 (zip s.ins bs))) ++ plain_candidates p ++ row_candidates s m.rest k)
      (grown_once false (length s.ins))
      ∙ ap (λ os. acks s peer now s.next_express os ++ plain_candidates p ++ row_candidates s m.rest k) (none_owing peer.guid s.ins 0)
      ∙ ap (λ ps. ps ++ row_candidates s m.rest k) (none_plain p plain)
      ∙ ap (λ ns. flat_map (waiting s k) (enumerate_from 0 (zip s.outs ns))) (grown_once 0 (length s.outs))
      ∙ none_waiting s k s.outs 0 rows

  nothing_to : (o : Option PlainLists) → (option_map_or has_plain o false || list_any (awaits k) s.outs) ≡ false
      → option_map_or (pump_to m now x k peer) o (sends_nothing m) ≡ sends_nothing m
  nothing_to None none = refl
  nothing_to (Some p) none =
      let parts = neither (has_plain p) (list_any (awaits k) s.outs) none in
      ap (pump_with m now x k peer.guid) (none_could p parts.0 parts.1)
      ∙ ap (λ b. cond b (answering m (Err fault.Spent)) (sending_ack m x)) (and_false (is_spent x))
      ∙ ap (λ b. cond b (sending_one m (packet.Ack (stamped kind.Ack x).0) (stamped kind.Ack x).1) (sends_nothing m)) owes

  pub pump_idle : is_outstanding_to s k ≡ false → pump m now ≡ sends_nothing m
  pump_idle none = ap (λ p. pump_owed m now x (owed_by p now x)) phase
      ∙ ap (λ p. cond (is_ready p) (pump_at m now x (linked_peer s x)) (sends_nothing m)) phase
      ∙ ap (pump_at m now x) linked
      ∙ ap (λ o. option_map_or (λ y. option_map_or (pump_to m now x k y) (slice_get s.plain k) (sends_nothing m)) o (sends_nothing m)) there
      ∙ nothing_to (slice_get s.plain k) none

  -- and stays as it is
  pub stays_idle : succeeded m (sends_nothing m) ≡ m
  stays_idle = again s (Some x) (Some x)
