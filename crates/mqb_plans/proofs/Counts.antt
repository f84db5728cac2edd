-- How many messages are due, and that they are few.
use Rattle.std.proofs.Common.{◌≡◌, ◌+◌, ◌<◌, ◌≤◌, ℕ, zero, suc, List, [], ◌∷◌, Option, Some, None, length, refl, subst, arith}
use Rattle.std.proofs.lemmas.List.Elements.{recursion_from_All}
use Rattle.std.proofs.lemmas.List.Sums.{count_by-le-length}
use Rattle.std.specs.List.{AllByRecursion}
use Rattle.std.specs.Option.{option_map_or}
use Rattle.std.specs.Prelude.{max, slice_get}
use Rattle.mqb_orders.specs.KeptLists.{Rises}
use Rattle.mqb_orders.specs.Rows.{Row}
use Rattle.mqb_orders.specs.declared.kept.Kept.{Kept}
use Rattle.mqb_model.specs.declared.limits.TheConstants.{MAX_ROLL}
use Rattle.mqb_model.specs.rules.Timeouts.{expires, expiring_in}
use Rattle.mqb_model.specs.state.State.{State}
use Rattle.mqb_model.specs.state.Valid.{IsInOrder, IsKeptBy, IsValidState}
use Rattle.mqb_timeouts.specs.Waiting.{expired_count}

-- Numbers that rise above one and up to another are few.
rising_few : (low most : ℕ) (kept : List Kept) → Rises kept → AllByRecursion (λ k. (low < k.number) × (k.number ≤ most)) kept → length kept + low ≤ max low most
rising_few low most [] rises within = omega arith
rising_few low most (k ∷ kept) rises within =
    let above : AllByRecursion (λ (j : Kept). (k.number < j.number) × (j.number ≤ most)) kept = later kept (behind kept rises) within.1 in
    let rest = rising_few k.number most kept (λ i j d less lt. let rise : suc i < suc j = omega arith in let inside : suc j < length (k ∷ kept) = omega arith in rises (suc i) (suc j) d rise inside) above in
    let lower = within.0.0 in
    let upper = within.0.1 in
    omega (arith, rest, lower, upper)
  where
    behind : (kept : List Kept) → Rises (k ∷ kept) → AllByRecursion (λ (j : Kept). k.number < j.number) kept
    behind kept rises = recursion_from_All (λ (j : Kept). k.number < j.number) kept
        (λ i d lt. let first : 0 < suc i = omega arith in let inside : suc i < length (k ∷ kept) = omega arith in rises 0 (suc i) d first inside)

    later : (kept : List Kept) → AllByRecursion (λ (j : Kept). k.number < j.number) kept → AllByRecursion (λ (j : Kept). (low < j.number) × (j.number ≤ most)) kept
        → AllByRecursion (λ (j : Kept). (k.number < j.number) × (j.number ≤ most)) kept
    later [] a b = tt
    later (j ∷ kept) a b = ((a.0, b.0.1), later kept a.1 b.1)

numbers_within : (row : Row) (kept : List Kept) → AllByRecursion (IsKeptBy row) kept → AllByRecursion (λ (k : Kept). (0 < k.number) × (k.number ≤ row.committed)) kept
numbers_within row [] h = tt
numbers_within row (k ∷ kept) h = let first = h.0.first in ((omega (arith, first), h.0.last), numbers_within row kept h.1)

few_in_row : (peers : ℕ) (row : Row) → IsInOrder peers row → length row.kept ≤ MAX_ROLL
few_in_row peers row h =
    let few = rising_few 0 row.committed row.kept h.rises (numbers_within row row.kept (recursion_from_All (IsKeptBy row) row.kept h.kept)) in
    let most = h.committed in
    omega (arith, few, most)

member : {X : Type 0} (P : X → Type 0) (xs : List X) (k : ℕ) (x : X) → AllByRecursion P xs → slice_get xs k ≡ Some x → P x
member P [] k x h is = absurd (let none : ⊥ = cc in none)
member P (y ∷ xs) zero x h is = subst P (same y x is) h.0
  where
    same : {X : Type 0} (y x : X) → Some y ≡ Some x → y ≡ x
    same y x e = cc
member P (y ∷ xs) (suc k) x h is = member P xs k x h.1 is

-- A row of a valid state keeps few messages.
few_kept : (s : State) (k : ℕ) (row : Row) → IsValidState s → slice_get s.outs k ≡ Some row → length row.kept ≤ MAX_ROLL
few_kept s k row valid is = few_in_row (length s.peers) row (member (IsInOrder (length s.peers)) s.outs k row (recursion_from_All (IsInOrder (length s.peers)) s.outs valid.rows) is)

-- So few of them expire.
pub few_expire : (now : ℕ) (s : State) (k : ℕ) → IsValidState s → expired_count now s k ≤ MAX_ROLL
few_expire now s k valid = by (slice_get s.outs k) refl
  where
    by : (o : Option Row) → slice_get s.outs k ≡ o → option_map_or (expiring_in now) o 0 ≤ MAX_ROLL
    by None is = omega arith
    by (Some row) is =
        let few = few_kept s k row valid is in
        let passing = count_by-le-length (expires now row) row.kept in
        omega (arith, few, passing)
