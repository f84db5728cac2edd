-- A search among numbers that rise, which passes half of what is left each time.
use Rattle.std.proofs.Common.{refl, ap, ◌∙◌, ◌⊎◌, inl, inr, get_or, length, arith}
use Rattle.std.proofs.lemmas.Bool.{cases_lt}
use Rattle.std.proofs.lemmas.Bool.Decides.{nat_tests}
use Rattle.std.proofs.lemmas.Option.{get_or_from_slice_get}
use Rattle.std.specs.List.{list_any}
use Rattle.std.specs.Prelude.{[], ◌+◌, ◌<◌, ◌==◌, ◌∷◌, ◌≡◌, ◌≤◌, ◌||◌, Bool, List, Some, false, slice_get, suc, true, zero, ℕ}
use Rattle.mqb_orders.specs.KeptLists.{Rises}
use Rattle.mqb_orders.specs.declared.kept.Kept.{Kept}

-- the numbers of those before a place are less than one, and those from another place on greater
pub record IsBetween (kept : List Kept) (number low high : ℕ) : Type 0 where
  pub before : (k : ℕ) (d : Kept) → k < low → (get_or kept k d).number < number
  pub behind : (k : ℕ) (d : Kept) → high ≤ k → k < length kept → number < (get_or kept k d).number
  pub order : low ≤ high
  pub within : high ≤ length kept

pub all_left : (kept : List Kept) (number len : ℕ) → len ≡ length kept → IsBetween kept number 0 len
all_left kept number len whole = record {
  before = λ k d lt. absurd (omega (arith, lt));
  behind = λ k d le lt. absurd (omega (arith, le, lt, whole));
  order = omega arith;
  within = omega (arith, whole);
}

module _ (kept : List Kept) (number low high middle : ℕ) (x : Kept) (rises : Rises kept) (there : slice_get kept middle ≡ Some x) (h : IsBetween kept number low high)
    (above : low ≤ middle) (below : middle < high) where
  most : high ≤ length kept
  most = h.within

  at : (d : Kept) → get_or kept middle d ≡ x
  at d = get_or_from_slice_get kept middle x d there

  pub upper_left : x.number < number → IsBetween kept number (middle + 1) high
  upper_left less = record {
    before = λ k d lt. by k d (omega (arith, lt));
    behind = h.behind;
    order = omega (arith, below);
    within = h.within;
  }
    where
      by : (k : ℕ) (d : Kept) → k ≤ middle → (get_or kept k d).number < number
      by k d le = at_or (cases_lt k middle)
        where
          at_or : (k < middle) ⊎ (middle ≤ k) → (get_or kept k d).number < number
          at_or (inl lt) =
              let risen = rises k middle d lt (omega (arith, below, most)) in
              let same = ap (λ (x : Kept). x.number) (at d) in
              omega (arith, risen, same, less)
          at_or (inr ge) =
              let here : k ≡ middle = omega (arith, le, ge) in
              let same = ap (λ i. (get_or kept i d).number) here ∙ ap (λ (x : Kept). x.number) (at d) in
              omega (arith, same, less)

  pub lower_left : number < x.number → IsBetween kept number low middle
  lower_left greater = record {
    before = h.before;
    behind = by;
    order = above;
    within = omega (arith, below, most);
  }
    where
      by : (k : ℕ) (d : Kept) → middle ≤ k → k < length kept → number < (get_or kept k d).number
      by k d le within = at_or (cases_lt middle k)
        where
          at_or : (middle < k) ⊎ (k ≤ middle) → number < (get_or kept k d).number
          at_or (inl lt) =
              let risen = rises middle k d lt within in
              let same = ap (λ (x : Kept). x.number) (at d) in
              omega (arith, risen, same, greater)
          at_or (inr ge) =
              let here : k ≡ middle = omega (arith, le, ge) in
              let same = ap (λ i. (get_or kept i d).number) here ∙ ap (λ (x : Kept). x.number) (at d) in
              omega (arith, same, greater)

none_passes : (number : ℕ) (kept : List Kept) → ((k : ℕ) (d : Kept) → k < length kept → ((get_or kept k d).number == number) ≡ false) → list_any (λ k. k.number == number) kept ≡ false
none_passes number [] fails = refl
none_passes number (x ∷ kept) fails = ap (λ b. b || list_any (λ k. k.number == number) kept) (fails 0 x (omega arith)) ∙ none_passes number kept (λ k d lt. fails (suc k) d (omega (arith, lt)))

pub none_left : (kept : List Kept) (number low high : ℕ) → IsBetween kept number low high → high ≤ low → list_any (λ k. k.number == number) kept ≡ false
none_left kept number low high h met = none_passes number kept (λ k d lt. by k d lt (cases_lt k low))
  where
    differ : (a b : ℕ) → a < b → (a == b) ≡ false
    differ a b lt = grind (arith, nat_tests)

    differ_too : (a b : ℕ) → b < a → (a == b) ≡ false
    differ_too a b lt = grind (arith, nat_tests)

    by : (k : ℕ) (d : Kept) → k < length kept → (k < low) ⊎ (low ≤ k) → ((get_or kept k d).number == number) ≡ false
    by k d lt (inl less) = differ (get_or kept k d).number number (h.before k d less)
    by k d lt (inr more) = differ_too (get_or kept k d).number number (h.behind k d (omega (arith, met, more)) lt)
