-- Each member of a list is changed, one after another.
use Rattle.std.proofs.Common.{◌≡◌, ℕ, zero, suc, ◌+◌, ◌<◌, add-one, List, [], ◌∷◌, ◌++◌, length, set, map, take, drop, Option, Some, None, refl, sym, ap, ◌∙◌, arith}
use Rattle.std.specs.Option.{option_map_or}
use Rattle.std.specs.Prelude.{slice_get}
use Rattle.mqb_model.specs.Lists.{with_changed}

-- the first ones are changed
abbrev pub first_changed : {X : Type 0} → (X → X) → List X → ℕ → List X
first_changed change xs k = map change (take k xs) ++ drop k xs

behind : {X : Type 0} (change : X → X) (x : X) (xs : List X) (k : ℕ) → with_changed change (x ∷ xs) (suc k) ≡ x ∷ with_changed change xs k
behind {X} change x xs k = by (slice_get xs k)
  where
    by : (o : Option X) → option_map_or (λ y. set (x ∷ xs) (suc k) (change y)) o (x ∷ xs) ≡ x ∷ option_map_or (λ y. set xs k (change y)) o xs
    by None = refl
    by (Some y) = refl

next : {X : Type 0} (change : X → X) (xs : List X) (k : ℕ) → k < length xs
    → with_changed change (first_changed change xs k) k ≡ first_changed change xs (suc k)
next change [] k within = absurd (omega (arith, within))
next change (x ∷ xs) zero within = refl
next {X} change (x ∷ xs) (suc k) within =
    behind change (change x) (first_changed change xs k) k
    ∙ ap (λ (ys : List X). change x ∷ ys) (next change xs k (omega (arith, within)))

pub one_more : {X : Type 0} (change : X → X) (xs : List X) (k : ℕ) → k < length xs
    → with_changed change (first_changed change xs k) k ≡ first_changed change xs (k + 1)
one_more change xs k within = next change xs k within ∙ ap (λ n. first_changed change xs n) (sym (add-one k))
