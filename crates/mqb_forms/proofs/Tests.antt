-- What tests say.
use Rattle.std.proofs.Common.{◌≡◌, ℕ, ◌+◌, ◌<◌, Bool, true, false, ◌==◌, ◌&&◌, List, [], ◌∷◌, suc, zero, cond, find, Some, refl, arith}
use Rattle.std.specs.List.{range_with_len}
use Rattle.std.proofs.lemmas.Bool.{eqb-true}
use Rattle.std.proofs.lemmas.Bool.Decides.{nat_tests}
use Rattle.mqb_base.specs.Same.{same_bytes}

pub both : (a b : Bool) → (a && b) ≡ true → (a ≡ true) × (b ≡ true)
both true b h = (refl, h)
both false b h = cc

pub same_is : (a b : List ℕ) → same_bytes a b ≡ true → a ≡ b
same_is [] [] h = refl
same_is [] (y ∷ ys) h = cc
same_is (x ∷ xs) [] h = cc
same_is (x ∷ xs) (y ∷ ys) h =
    let k = both (x == y) (same_bytes xs ys) h in
    let first : x ≡ y = eqb-true x y k.0 in
    let rest : xs ≡ ys = same_is xs ys k.1 in
    cc

-- each number below n passes
abbrev pub all_below : ℕ → (ℕ → Bool) → Bool
all_below zero p = true
all_below (suc n) p = p n && all_below n p

below_step : (n : ℕ) (p : ℕ → Bool) (k : ℕ) (same : Bool) → (k == n) ≡ same → p n ≡ true → (k < n → p k ≡ true) → k < suc n → p k ≡ true
below_step n p k true e here below within = rw (eqb-true k n e) here
below_step n p k false e here below within = below (grind (arith, nat_tests))

pub below_at : (n : ℕ) (p : ℕ → Bool) (k : ℕ) → all_below n p ≡ true → k < n → p k ≡ true
below_at zero p k h within = absurd (omega arith)
below_at (suc n) p k h within =
    let h2 = both (p n) (all_below n p) h in below_step n p k (k == n) refl h2.0 (λ below. below_at n p k h2.1 below) within

-- it passes, and is below a bound
pub record IsFound (p : ℕ → Bool) (high n : ℕ) : Type 0 where
  pub passes : p n ≡ true
  pub within : n < high

found_step : (p : ℕ → Bool) (low count n : ℕ) (b : Bool) → p low ≡ b → cond b (Some low) (find p (range_with_len (low + 1) count)) ≡ Some n
    → (find p (range_with_len (low + 1) count) ≡ Some n → IsFound p ((low + 1) + count) n)
    → IsFound p (low + suc count) n
found_step p low count n true e h later = let is : low ≡ n = cc in record { passes = rw (← is) e; within = omega arith }
found_step p low count n false e h later =
    let f = later h in record { passes = f.passes; within = let w : n < (low + 1) + count = f.within in omega arith }

pub found_within : (p : ℕ → Bool) (low count n : ℕ) → find p (range_with_len low count) ≡ Some n → IsFound p (low + count) n
found_within p low zero n h = cc
found_within p low (suc count) n h = found_step p low count n (p low) refl h (λ later. found_within p (low + 1) count n later)
