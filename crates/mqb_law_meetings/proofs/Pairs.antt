-- The pairs of so many managers.
use Rattle.std.proofs.Common.{◌≡◌, ℕ, zero, suc, ◌+◌, ◌<◌, ◌≤◌, inl, inr, ◌==◌, Bool, true, false, List, [], ◌∷◌, refl, ap, subst, ◌∙◌, arith}
use Rattle.std.proofs.lemmas.List.{map-append}
use Rattle.std.specs.List.{AllByRecursion, flat_map, range_with_len}
use Rattle.std.specs.Prelude.{map}
use Rattle.mqb_exactly_once.specs.Words.{In}
use Rattle.mqb_network.specs.Courses.{Course}
use Rattle.mqb_network.specs.Runs.{course_after}
use Rattle.mqb_network.specs.Scripts.{well}
use Rattle.mqb_law_meetings.specs.Meetings.{meetings}
use Rattle.mqb_law_meetings.specs.Rounds.{pairs}
use Rattle.mqb_law_meetings.proofs.Firsts.{all_append}
use Rattle.mqb_law_meetings.proofs.Lists.{apart_numbers, equal_numbers}
use Rattle.mqb_law_meetings.proofs.Members.{all_parts}
use Rattle.mqb_law_meetings.proofs.Running.{after_append}

-- members of a list of numbers
pub in_range : (from n j : ℕ) → from ≤ j → j < from + n → In j (range_with_len from n)
in_range from zero j low high = absurd (omega (arith, low, high))
in_range from (suc n) j low high = at (from == j) refl (in_range (from + 1) n j)
  where
    at : (b : Bool) → (from == j) ≡ b → (from + 1 ≤ j → j < from + 1 + n → In j (range_with_len (from + 1) n)) → In j (range_with_len from (suc n))
    at true e rest = inl (equal_numbers from j e)
    at false e rest = inr (rest (let apart : from ≡ j → ⊥ = apart_numbers from j e in let more : from + 1 ≤ j = omega (arith, low, apart) in more) (omega (arith, high)))

each_in : {X : Type 0} (P : X → Type 0) (f : ℕ → X) (is : List ℕ) → AllByRecursion P (map f is) → (j : ℕ) → In j is → P (f j)
each_in P f [] all j none = absurd none
each_in P f (i ∷ is) all j (inl e) = subst (λ k. P (f k)) e all.0
each_in P f (i ∷ is) all j (inr rest) = each_in P f is all.1 j rest

-- each two are among the pairs
pub paired : (P : ℕ × ℕ → Type 0) (n i j : ℕ) → i < j → j < n → AllByRecursion P (pairs n) → P (i, j)
paired P zero i j less inside all = absurd (omega (arith, inside))
paired P (suc n) i j less inside all = at (n == j) refl (λ within. paired P n i j less within parts.0)
  where
    parts : AllByRecursion P (pairs n) × AllByRecursion P (map (λ (k : ℕ). (k, n)) (range_with_len 0 n))
    parts = all_parts P (pairs n) (map (λ (k : ℕ). (k, n)) (range_with_len 0 n)) all

    at : (b : Bool) → (n == j) ≡ b → (j < n → P (i, j)) → P (i, j)
    at true e rest = let same : n ≡ j = equal_numbers n j e in subst (λ k. P (i, k)) same (each_in P (λ (k : ℕ). (k, n)) (range_with_len 0 n) parts.1 i (in_range 0 n i (omega arith) (omega (arith, less, same))))
    at false e rest = rest (let apart : n ≡ j → ⊥ = apart_numbers n j e in let within : j < n = omega (arith, inside, apart) in within)

-- two of so many
pub record AreTwo (n : ℕ) (p : ℕ × ℕ) : Type 0 where
  pub first : p.0 < n
  pub second : p.1 < n
  pub differ : p.0 ≡ p.1 → ⊥

all_mapped : {X : Type 0} (P : X → Type 0) (f : ℕ → X) (from n : ℕ) → ((i : ℕ) → i < from + n → P (f i)) → AllByRecursion P (map f (range_with_len from n))
all_mapped P f from zero each = tt
all_mapped P f from (suc n) each = (each from (omega arith), all_mapped P f (from + 1) n (λ i inside. each i (omega (arith, inside))))

pub pairs_are_two : (n most : ℕ) → n ≤ most → AllByRecursion (AreTwo most) (pairs n)
pairs_are_two zero most within = tt
pairs_are_two (suc n) most within = all_append (AreTwo most) (pairs n) (map (λ (i : ℕ). (i, n)) (range_with_len 0 n)) (pairs_are_two n most (omega (arith, within)))
    (all_mapped (AreTwo most) (λ (i : ℕ). (i, n)) 0 n (λ i inside. record { first = omega (arith, inside, within); second = omega (arith, within); differ = λ e. omega (arith, e, inside) }))

-- The meetings of the first pair go before the others.
pub round_split : (c : Course) (p : ℕ × ℕ) (ps : List (ℕ × ℕ)) (now count : ℕ) → course_after c (map well (flat_map (λ (q : ℕ × ℕ). meetings q.0 q.1 now count) (p ∷ ps)))
    ≡ course_after (course_after c (map well (meetings p.0 p.1 now count))) (map well (flat_map (λ (q : ℕ × ℕ). meetings q.0 q.1 now count) ps))
round_split c p ps now count = ap (course_after c) (map-append well (meetings p.0 p.1 now count) (flat_map (λ (q : ℕ × ℕ). meetings q.0 q.1 now count) ps))
    ∙ after_append c (map well (meetings p.0 p.1 now count)) (map well (flat_map (λ (q : ℕ × ℕ). meetings q.0 q.1 now count) ps))
