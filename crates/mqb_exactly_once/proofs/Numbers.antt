-- Where messages are numbered 1, 2 and so on, each number is at most the count of its sequence.
use Rattle.std.proofs.Common.{◌≡◌, ℕ, suc, ◌<◌, ◌≤◌, inl, inr, Bool, true, false, cond, List, [], ◌∷◌, subst, arith, ◌⊎◌, ◌==◌, sym, refl}
use Rattle.std.proofs.lemmas.Bool.{cases_eq, and_from, eq-eqb}
use Rattle.mqb_base.specs.Sequences.{same_sequence}
use Rattle.mqb_exactly_once.specs.World.{Position, Commitment, Expiry}
use Rattle.mqb_exactly_once.specs.Words.{In, same_position, is_committed, is_kept, count}
use Rattle.mqb_exactly_once.specs.ExactlyOnce.{IsNumbered}
use Rattle.mqb_exactly_once.proofs.Either.{or_left, or_right}
use Rattle.mqb_exactly_once.proofs.Positions.{same_sequence_is, same_sequence_refl}
use Rattle.mqb_exactly_once.proofs.Members.{In_from_committed, kept_is_committed}

count_rises : (b : Bool) (n : ℕ) → n ≤ cond b (suc n) n
count_rises true n = omega arith
count_rises false n = omega arith

pub numbers_within : (cs : List Commitment) (c : Commitment) → IsNumbered cs → In c cs
    → (0 < c.position.number) × (c.position.number ≤ count cs c.position.sequence)
numbers_within [] c numbered inside = absurd inside
numbers_within (d ∷ cs) c numbered (inl is) =
    subst (λ (e : Commitment). (0 < e.position.number) × (e.position.number ≤ count (d ∷ cs) e.position.sequence)) is at_head
  where
    at_head : (0 < d.position.number) × (d.position.number ≤ count (d ∷ cs) d.position.sequence)
    at_head = rw (same_sequence_refl d.position.sequence) (omega (arith, numbered.0), omega (arith, numbered.0))
numbers_within (d ∷ cs) c numbered (inr behind) =
    let within = numbers_within cs c numbered.1 behind in
    (within.0, omega (arith, within.1, count_rises (same_sequence d.position.sequence c.position.sequence) (count cs c.position.sequence)))

pub committed_within : (cs : List Commitment) (p : Position) → IsNumbered cs → is_committed cs p ≡ true
    → (0 < p.number) × (p.number ≤ count cs p.sequence)
committed_within cs p numbered h =
    let found = In_from_committed cs p h in
    subst (λ (q : Position). (0 < q.number) × (q.number ≤ count cs q.sequence)) found.2 (numbers_within cs found.0 numbered found.1)

pub kept_within : (cs : List Commitment) (es : List Expiry) (p : Position) → IsNumbered cs → is_kept cs es p ≡ true
    → (0 < p.number) × (p.number ≤ count cs p.sequence)
kept_within cs es p numbered h = committed_within cs p numbered (kept_is_committed cs es p h)

-- each number up to the count was committed
pub counted_is_committed : (cs : List Commitment) (p : Position) → IsNumbered cs → 0 < p.number → p.number ≤ count cs p.sequence
    → is_committed cs p ≡ true
counted_is_committed [] p numbered above within = absurd (omega arith)
counted_is_committed (c ∷ cs) p numbered above within =
    at (same_sequence c.position.sequence p.sequence) refl (cases_eq p.number c.position.number) (counted_is_committed cs p numbered.1 above) within
  where
    behind : is_committed cs p ≡ true → is_committed (c ∷ cs) p ≡ true
    behind h = or_right (same_position c.position p) (is_committed cs p) h

    in_front : same_sequence c.position.sequence p.sequence ≡ true → p.number ≡ c.position.number → is_committed (c ∷ cs) p ≡ true
    in_front same is =
        let equal = eq-eqb c.position.number p.number (sym is) in
        let at_head = and_from (same_sequence c.position.sequence p.sequence) (c.position.number == p.number) same equal in
        or_left (same_position c.position p) (is_committed cs p) at_head

    number : same_sequence c.position.sequence p.sequence ≡ true → c.position.number ≡ suc (count cs p.sequence)
    number same = subst (λ s. c.position.number ≡ suc (count cs s)) (same_sequence_is c.position.sequence p.sequence same) numbered.0

    at : (b : Bool) → same_sequence c.position.sequence p.sequence ≡ b
        → (p.number ≡ c.position.number) ⊎ (p.number ≡ c.position.number → ⊥)
        → (p.number ≤ count cs p.sequence → is_committed cs p ≡ true)
        → p.number ≤ cond b (suc (count cs p.sequence)) (count cs p.sequence) → is_committed (c ∷ cs) p ≡ true
    at true same (inl is) rest within = in_front same is
    at true same (inr not) rest within = behind (rest (omega (arith, number same)))
    at false other _ rest within = behind (rest within)
