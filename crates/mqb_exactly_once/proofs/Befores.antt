-- What stands before a number is the greatest kept one below it, and depends on the kept ones below it alone.
use Rattle.std.proofs.Common.{◌≡◌, ℕ, zero, suc, ◌<◌, inl, inr, Bool, true, false, cond, List, refl, sym, ap, ap₂, ◌∙◌, arith, ◌⊎◌, ◌≤◌}
use Rattle.std.proofs.lemmas.Bool.{cases_eq, true≢false}
use Rattle.mqb_base.specs.declared.ids.SequenceId.{SequenceId}
use Rattle.mqb_exactly_once.specs.World.{Commitment, Expiry}
use Rattle.mqb_exactly_once.specs.Words.{is_kept, before}
use Rattle.mqb_exactly_once.specs.Truths.{IsGreatestKept}

module _ (cs : List Commitment) (es : List Expiry) (s : SequenceId) where
  pub before_is_greatest : (n : ℕ) → IsGreatestKept cs es s n (before cs es s n)
  before_is_greatest zero = record { member = inl refl; greatest = λ k below h. absurd (omega arith) }
  before_is_greatest (suc n) = at (is_kept cs es (record { sequence = s; number = n })) refl (before_is_greatest n)
    where
      wider : (m : ℕ) → (m ≡ 0) ⊎ ((m < n) × (is_kept cs es (record { sequence = s; number = m }) ≡ true))
          → (m ≡ 0) ⊎ ((m < suc n) × (is_kept cs es (record { sequence = s; number = m }) ≡ true))
      wider m (inl none) = inl none
      wider m (inr h) = inr (omega (arith, h.0), h.1)

      strictly : (k : ℕ) → is_kept cs es (record { sequence = s; number = n }) ≡ false → k < suc n
          → is_kept cs es (record { sequence = s; number = k }) ≡ true → k < n
      strictly k is_not below h = elim (cases_eq k n) [
        | inl is ↦ absurd (true≢false (sym h ∙ (ap (λ m. is_kept cs es (record { sequence = s; number = m })) is ∙ is_not)))
        | inr not ↦ omega arith
      ]

      at : (b : Bool) → is_kept cs es (record { sequence = s; number = n }) ≡ b → IsGreatestKept cs es s n (before cs es s n)
          → IsGreatestKept cs es s (suc n) (cond b n (before cs es s n))
      at true is_it lower = record { member = inr (omega arith, is_it); greatest = λ k below h. omega arith }
      at false is_not lower = record {
        member = wider (before cs es s n) lower.member;
        greatest = λ k below h. lower.greatest k (strictly k is_not below h) h;
      }

  pub same_greatest : (n m k : ℕ) → IsGreatestKept cs es s n m → IsGreatestKept cs es s n k → m ≡ k
  same_greatest n m k g h = antisymmetric (within m k g h) (within k m h g)
    where
      within : (m k : ℕ) → IsGreatestKept cs es s n m → IsGreatestKept cs es s n k → m ≤ k
      within m k g h = elim g.member [ inl none ↦ omega arith | inr is ↦ h.greatest m is.0 is.1 ]

      antisymmetric : m ≤ k → k ≤ m → m ≡ k
      antisymmetric a b = omega arith

  pub before_same : (ds : List Commitment) (fs : List Expiry) (n : ℕ)
      → ((k : ℕ) → k < n → is_kept ds fs (record { sequence = s; number = k }) ≡ is_kept cs es (record { sequence = s; number = k }))
      → before ds fs s n ≡ before cs es s n
  before_same ds fs zero same = refl
  before_same ds fs (suc n) same =
      ap₂ (λ (b : Bool) (m : ℕ). cond b n m) (same n (omega arith)) (before_same ds fs n (λ k below. same k (omega arith)))
