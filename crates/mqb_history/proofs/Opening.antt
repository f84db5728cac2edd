-- What could go from a manager's rows is kept there, and the rows are open.
use Rattle.std.proofs.Common.{arith, refl, subst, inr, inl}
use Rattle.std.proofs.lemmas.Bool.Decides.{nat_tests}
use Rattle.std.specs.List.{AllByRecursion, cons_option, enumerate_from, flat_map}
use Rattle.std.specs.Prelude.{[], ◌<◌, ◌&&◌, ◌+◌, ◌++◌, ◌==◌, ◌∷◌, ◌≡◌, Bool, List, None, Some, cond, filter, filter_map, is_none, map, max, nat_lt, slice_get, true, zip, false, suc, ℕ}
use Rattle.mqb_base.specs.declared.ids.Identity.{Identity}
use Rattle.mqb_exactly_once.specs.Words.{In}
use Rattle.mqb_model.specs.calls.pump.Candidates.{Candidate, acks, candidates, of_row, plain_candidates, row_candidates, rows_owing, unsent_from, unsent_of, waiting}
use Rattle.mqb_model.specs.calls.pump.Choosing.{candidate_size, chosen, may_follow, session_after}
use Rattle.mqb_model.specs.managers.Beside.{OfExpress, OfRecoverable}
use Rattle.mqb_model.specs.managers.Manager.{Rest}
use Rattle.mqb_model.specs.rules.Numbers.{express_after}
use Rattle.mqb_model.specs.state.State.{State}
use Rattle.mqb_orders.specs.Rows.{Row, is_open}
use Rattle.mqb_orders.specs.declared.kept.Kept.{Kept}
use Rattle.mqb_orders.specs.declared.rows.InRow.{InRow}
use Rattle.mqb_plain.specs.Plain.{PlainLists}
use Rattle.mqb_plain.specs.declared.outgoing.Outgoing.{Outgoing}
use Rattle.mqb_session.specs.State as one_end
use Rattle.mqb_history.specs.Made.{IsOfRows}
use Rattle.mqb_history.proofs.Lists.{all_append, split_and}
use Rattle.mqb_history.proofs.Outside.{filtered_in}

-- what is left of a list passes
filtered_passes : {X : Type 0} (test : X → Bool) (xs : List X) (x : X) → In x (filter test xs) → test x ≡ true
filtered_passes test [] x i = absurd i
filtered_passes test (z ∷ zs) x i = at (test z) refl i (λ j. filtered_passes test zs x j)
  where
    at : (b : Bool) → test z ≡ b → In x (cond b (z ∷ filter test zs) (filter test zs)) → (In x (filter test zs) → test x ≡ true) → test x ≡ true
    at true f (inl e) rest = subst (λ y. test y ≡ true) e f
    at true f (inr j) rest = rest j
    at false f j rest = rest j

-- candidates of these rows
abbrev pub AreOfRows : List Row → List Candidate → Type 0
AreOfRows outs cs = AllByRecursion (λ c. IsOfRows outs c c.origin) cs

acks_apart : (outs : List Row) (s : State) (peer : Identity) (now number : ℕ) (rows : List (ℕ × InRow)) → AreOfRows outs (acks s peer now number rows)
acks_apart outs s peer now number [] = tt
acks_apart outs s peer now number (row ∷ rows) = (refl, acks_apart outs s peer now (express_after number) rows)

recoverable_apart : (outs : List Row) (os : List Outgoing) → AreOfRows outs (filter_map (unsent_from OfRecoverable) os)
recoverable_apart outs [] = tt
recoverable_apart outs (o ∷ os) = at (is_none o.mark) (recoverable_apart outs os)
  where
    at : (b : Bool) → AreOfRows outs (filter_map (unsent_from OfRecoverable) os)
        → AreOfRows outs (cons_option (cond b (Some (record { origin = OfRecoverable; message = o.message; tx = None })) None) (filter_map (unsent_from OfRecoverable) os))
    at true rest = (refl, rest)
    at false rest = rest

express_apart : (outs : List Row) (os : List Outgoing) → AreOfRows outs (filter_map (unsent_from OfExpress) os)
express_apart outs [] = tt
express_apart outs (o ∷ os) = at (is_none o.mark) (express_apart outs os)
  where
    at : (b : Bool) → AreOfRows outs (filter_map (unsent_from OfExpress) os)
        → AreOfRows outs (cons_option (cond b (Some (record { origin = OfExpress; message = o.message; tx = None })) None) (filter_map (unsent_from OfExpress) os))
    at true rest = (refl, rest)
    at false rest = rest

kept_open : (outs : List Row) (index : ℕ) (row : Row) (ks : List Kept) → slice_get outs index ≡ Some row → is_open outs index ≡ true → ((k : Kept) → In k ks → In k row.kept × (row.acked < k.number))
    → AreOfRows outs (map (of_row index row) ks)
kept_open outs index row [] there open_ within = tt
kept_open outs index row (k ∷ ks) there open_ within = (
  record { row = row; there = there; kept = k; inside = (within k (inl refl)).0; numbered = refl; unacknowledged = (within k (inl refl)).1; message = refl; head = refl; open_ = open_ },
  kept_open outs index row ks there open_ (λ x i. within x (inr i)),
)

waiting_open : (s : State) (peer index : ℕ) (row : Row) (cursor : ℕ) → slice_get s.outs index ≡ Some row → AreOfRows s.outs (waiting s peer (index, (row, cursor)))
waiting_open s peer index row cursor there = at ((row.peer == peer) && is_open s.outs index) (λ e. (split_and (row.peer == peer) (is_open s.outs index) e).1)
  where
    less : (k : Kept) → nat_lt (max row.acked cursor) k.number ≡ true → row.acked < k.number
    less k e = grind (arith, nat_tests)

    above : (k : Kept) → In k (unsent_of row cursor) → row.acked < k.number
    above k i = less k (filtered_passes (λ (x : Kept). nat_lt (max row.acked cursor) x.number) row.kept k i)

    at : (b : Bool) → (b ≡ true → is_open s.outs index ≡ true) → AreOfRows s.outs (cond b (map (of_row index row) (unsent_of row cursor)) [])
    at true open_ = kept_open s.outs index row (unsent_of row cursor) there (open_ refl) (λ k i. (filtered_in (λ (x : Kept). nat_lt (max row.acked cursor) x.number) row.kept k i, above k i))
    at false open_ = tt

rows_open : (s : State) (peer n : ℕ) (rows : List Row) (cursors : List ℕ) → ((k : ℕ) (row : Row) → slice_get rows k ≡ Some row → slice_get s.outs (n + k) ≡ Some row)
    → AreOfRows s.outs (flat_map (waiting s peer) (enumerate_from n (zip rows cursors)))
rows_open s peer n [] cursors there = tt
rows_open s peer n (row ∷ rows) [] there = tt
rows_open s peer n (row ∷ rows) (cursor ∷ cursors) there = all_append (λ c. IsOfRows s.outs c c.origin) (waiting s peer (n, (row, cursor))) (flat_map (waiting s peer) (enumerate_from (n + 1) (zip rows cursors)))
    (waiting_open s peer n row cursor (subst (λ i. slice_get s.outs i ≡ Some row) (let e : n + 0 ≡ n = omega arith in e) (there 0 row refl)))
    (rows_open s peer (n + 1) rows cursors (λ k x e. subst (λ i. slice_get s.outs i ≡ Some x) (let f : n + suc k ≡ n + 1 + k = omega arith in f) (there (suc k) x e)))

pub candidates_open : (s : State) (rest : Rest) (now k : ℕ) (peer : Identity) (p : PlainLists) → AreOfRows s.outs (candidates s rest now k peer p)
candidates_open s rest now k peer p = all_append (λ c. IsOfRows s.outs c c.origin) (acks s peer now s.next_express (rows_owing s rest peer.guid) ++ plain_candidates p) (row_candidates s rest k)
    (all_append (λ c. IsOfRows s.outs c c.origin) (acks s peer now s.next_express (rows_owing s rest peer.guid)) (plain_candidates p)
    (acks_apart s.outs s peer now s.next_express (rows_owing s rest peer.guid))
    (all_append (λ c. IsOfRows s.outs c c.origin) (filter_map (unsent_from OfRecoverable) p.recoverable) (filter_map (unsent_from OfExpress) p.express)
    (recoverable_apart s.outs p.recoverable) (express_apart s.outs p.express)))
    (rows_open s k 0 s.outs rest.cursors (λ i row e. subst (λ j. slice_get s.outs j ≡ Some row) (let f : i ≡ 0 + i = omega arith in f) e))

-- the chosen ones are some of them
pub chosen_all : (P : Candidate → Type 0) (session : one_end.State) (count bytes : ℕ) (xs : List Candidate) → AllByRecursion P xs → AllByRecursion P (chosen session count bytes xs)
chosen_all P session count bytes [] h = tt
chosen_all P session count bytes (x ∷ xs) h = at (may_follow session count bytes x) (chosen_all P (session_after session x) (count + 1) (bytes + candidate_size x) xs h.1)
  where
    at : (b : Bool) → AllByRecursion P (chosen (session_after session x) (count + 1) (bytes + candidate_size x) xs)
        → AllByRecursion P (cond b (x ∷ chosen (session_after session x) (count + 1) (bytes + candidate_size x) xs) [])
    at true rest = (h.0, rest)
    at false rest = tt
