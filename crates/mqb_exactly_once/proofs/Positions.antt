-- The order of sequences and of positions.
use Rattle.std.proofs.Common.{◌≡◌, ℕ, ◌<◌, ◌⊎◌, inl, inr, true, false, ◌&&◌, nat_lt, refl, sym, ap₂, subst, ◌∙◌, arith}
use Rattle.std.proofs.lemmas.Bool.{and_parts, and_from, eqb-true, ltb-true, lt-ltb, or_cases}
use Rattle.std.proofs.lemmas.Bool.Decides.{nat_tests}
use Rattle.mqb_base.specs.declared.ids.SequenceId.{SequenceId}
use Rattle.mqb_base.specs.Sequences.{same_sequence, earlier}
use Rattle.mqb_exactly_once.specs.World.{Position}
use Rattle.mqb_exactly_once.specs.Words.{same_position, precedes}
use Rattle.mqb_exactly_once.proofs.Either.{or_right}

pub same_sequence_is : (a b : SequenceId) → same_sequence a b ≡ true → a ≡ b
same_sequence_is a b h =
    let parts = and_parts _ _ h in
    ap₂ (λ (o t : ℕ). record { ordinal = o; stamp = t }) (eqb-true _ _ parts.0) (eqb-true _ _ parts.1)

pub same_sequence_refl : (a : SequenceId) → same_sequence a a ≡ true
same_sequence_refl a = grind (arith, nat_tests)

pub same_the_other_way : (a b : SequenceId) → same_sequence a b ≡ true → same_sequence b a ≡ true
same_the_other_way a b h = grind (arith, nat_tests)

-- what `earlier` tells
pub earlier_tells : (a b : SequenceId) → earlier a b ≡ true → (a.ordinal < b.ordinal) ⊎ ((a.ordinal ≡ b.ordinal) × (a.stamp < b.stamp))
earlier_tells a b h = grind (arith, nat_tests)

pub earlier_from : (a b : SequenceId) → (a.ordinal < b.ordinal) ⊎ ((a.ordinal ≡ b.ordinal) × (a.stamp < b.stamp)) → earlier a b ≡ true
earlier_from a b (inl h) = grind (arith, nat_tests)
earlier_from a b (inr h) = grind (arith, nat_tests)

pub earlier_trans : (a b c : SequenceId) → earlier a b ≡ true → earlier b c ≡ true → earlier a c ≡ true
earlier_trans a b c h k = earlier_from a c (joined (earlier_tells a b h) (earlier_tells b c k))
  where
    joined : (a.ordinal < b.ordinal) ⊎ ((a.ordinal ≡ b.ordinal) × (a.stamp < b.stamp))
        → (b.ordinal < c.ordinal) ⊎ ((b.ordinal ≡ c.ordinal) × (b.stamp < c.stamp))
        → (a.ordinal < c.ordinal) ⊎ ((a.ordinal ≡ c.ordinal) × (a.stamp < c.stamp))
    joined (inl h) (inl k) = inl (omega arith)
    joined (inl h) (inr k) = inl (omega arith)
    joined (inr h) (inl k) = inl (omega arith)
    joined (inr h) (inr k) = inr (omega arith, omega arith)

pub not_earlier_itself : (a : SequenceId) → earlier a a ≡ false
not_earlier_itself a = grind (arith, nat_tests)

pub earlier_is_not_same : (a b : SequenceId) → earlier a b ≡ true → same_sequence a b ≡ false
earlier_is_not_same a b h = grind (arith, nat_tests)

-- sequences that are not the same have an order
pub later_else : (a b : SequenceId) → earlier b a ≡ false → same_sequence a b ≡ false → earlier a b ≡ true
later_else a b h k = grind (arith, nat_tests)

pub same_position_is : (p q : Position) → same_position p q ≡ true → p ≡ q
same_position_is p q h =
    let parts = and_parts _ _ h in
    ap₂ (λ (s : SequenceId) (n : ℕ). record { sequence = s; number = n }) (same_sequence_is _ _ parts.0) (eqb-true _ _ parts.1)

pub same_position_refl : (p : Position) → same_position p p ≡ true
same_position_refl p = grind (arith, nat_tests)

-- what `precedes` tells
pub precedes_tells : (p q : Position) → precedes p q ≡ true
    → (earlier p.sequence q.sequence ≡ true) ⊎ ((p.sequence ≡ q.sequence) × (p.number < q.number))
precedes_tells p q h = told (or_cases _ _ h)
  where
    told : (earlier p.sequence q.sequence ≡ true) ⊎ ((same_sequence p.sequence q.sequence && nat_lt p.number q.number) ≡ true)
        → (earlier p.sequence q.sequence ≡ true) ⊎ ((p.sequence ≡ q.sequence) × (p.number < q.number))
    told (inl before) = inl before
    told (inr h) = let parts = and_parts _ _ h in inr (same_sequence_is _ _ parts.0, ltb-true _ _ parts.1)

pub precedes_earlier : (p q : Position) → earlier p.sequence q.sequence ≡ true → precedes p q ≡ true
precedes_earlier p q h = rw h refl

pub precedes_below : (p q : Position) → p.sequence ≡ q.sequence → p.number < q.number → precedes p q ≡ true
precedes_below p q same below = or_right (earlier p.sequence q.sequence) (same_sequence p.sequence q.sequence && nat_lt p.number q.number)
    (and_from (same_sequence p.sequence q.sequence) (nat_lt p.number q.number)
    (subst (λ s. same_sequence s q.sequence ≡ true) (sym same) (same_sequence_refl q.sequence)) (lt-ltb p.number q.number below))

pub precedes_trans : (p q r : Position) → precedes p q ≡ true → precedes q r ≡ true → precedes p r ≡ true
precedes_trans p q r h k = joined (precedes_tells p q h) (precedes_tells q r k)
  where
    joined : (earlier p.sequence q.sequence ≡ true) ⊎ ((p.sequence ≡ q.sequence) × (p.number < q.number))
        → (earlier q.sequence r.sequence ≡ true) ⊎ ((q.sequence ≡ r.sequence) × (q.number < r.number)) → precedes p r ≡ true
    joined (inl h) (inl k) = precedes_earlier p r (earlier_trans p.sequence q.sequence r.sequence h k)
    joined (inl h) (inr k) = precedes_earlier p r (subst (λ s. earlier p.sequence s ≡ true) k.0 h)
    joined (inr h) (inl k) = precedes_earlier p r (subst (λ s. earlier s r.sequence ≡ true) (sym h.0) k)
    joined (inr h) (inr k) = precedes_below p r (h.0 ∙ k.0) (omega (arith, h.1, k.1))
