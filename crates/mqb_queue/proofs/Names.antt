-- Queues and their names.
use Rattle.std.proofs.Common.{◌≡◌, ℕ, ◌<◌, ◌≤◌, Bool, true, false, cond, ltb, List, length, get_or, map, Option, Some, None, refl, sym, ap, ◌∙◌, subst, arith}
use Rattle.std.specs.Char.{to_ascii_lowercase}
use Rattle.std.specs.Cmp.Lexicographic.{bytes_decides}
use Rattle.std.specs.List.{position, position_or_len, slice_get}
use Rattle.std.proofs.lemmas.Bool.{ltb-false}
use Rattle.std.proofs.lemmas.List.{length-map, get_or-map}
use Rattle.std.proofs.lemmas.List.Quantifiers.{position-Some}
use Rattle.std.proofs.lemmas.List.Sums.{position_or_len_is}
use Rattle.std.proofs.lemmas.Option.{slice_get_within, get_or_from_slice_get}
use Rattle.mqb_base.specs.Same.{same_bytes, same_ignoring_case}
use Rattle.mqb_queue.specs.Places.{Queue, NamesDiffer, found}

same_lower : (a b : List ℕ) → same_ignoring_case a b ≡ true → map to_ascii_lowercase a ≡ map to_ascii_lowercase b
same_lower a b e = (bytes_decides (map to_ascii_lowercase a) (map to_ascii_lowercase b)).0 e

from_lower : (a b : List ℕ) → map to_ascii_lowercase a ≡ map to_ascii_lowercase b → same_ignoring_case a b ≡ true
from_lower a b e = (bytes_decides (map to_ascii_lowercase a) (map to_ascii_lowercase b)).1 e

-- one name finds what the other finds
pub same_found : (queues : List Queue) (a b : List ℕ) → same_ignoring_case a b ≡ true → found queues b ≡ found queues a
same_found queues a b e = ap (λ low. position (λ (q : Queue). same_bytes (map to_ascii_lowercase q.plan.name) low) queues) (sym (same_lower a b e))

-- where two names find one queue, they are the same
pub same_from_found : (queues : List Queue) (a b : List ℕ) (k : ℕ) (q : Queue) → found queues a ≡ Some k → found queues b ≡ Some k
    → same_ignoring_case a b ≡ true
same_from_found queues a b k q at_a at_b =
    let has : List ℕ → Queue → Bool = λ name r. same_ignoring_case r.plan.name name in
    let name : List ℕ = (get_or queues k q).plan.name in
    from_lower a b (sym (same_lower name a (position-Some (has a) queues k q at_a).1) ∙ same_lower name b (position-Some (has b) queues k q at_b).1)

at_place : (p : Queue → Bool) (queues : List Queue) (k : ℕ) → k < length queues → position_or_len p queues ≡ k → position p queues ≡ Some k
at_place p queues k within is = subst (λ n. cond (ltb n (length queues)) (Some n) None ≡ Some k) (sym is) (at (ltb k (length queues))
    (λ f. ltb-false k (length queues) f))
  where
    at : (t : Bool) → (t ≡ false → length queues ≤ k) → cond t (Some k) None ≡ Some k
    at true beyond = refl
    at false beyond = let h : length queues ≤ k = beyond refl in absurd (omega (arith, within))

pub found_by_its_name : (queues : List Queue) (k : ℕ) (q : Queue) → NamesDiffer queues → slice_get queues k ≡ Some q
    → found queues q.plan.name ≡ Some k
found_by_its_name queues k q differ got =
    at_place has queues k within (position_or_len_is has queues k q (omega (arith, within)) before (λ _. is_itself))
  where
    has : Queue → Bool
    has r = same_ignoring_case r.plan.name q.plan.name

    name_of : Queue → List ℕ
    name_of r = r.plan.name

    within : k < length queues
    within = slice_get_within queues k q got

    read : get_or queues k q ≡ q
    read = get_or_from_slice_get queues k q q got

    is_itself : has (get_or queues k q) ≡ true
    is_itself = ap has read ∙ from_lower q.plan.name q.plan.name refl

    before : (j : ℕ) → j < k → has (get_or queues j q) ≡ false
    before j earlier =
        let last : k < length (map name_of queues) = subst (λ n. k < n) (sym (length-map queues name_of)) within in
        let inside : j < length queues = omega (arith, within) in
        ap (λ n. same_ignoring_case n q.plan.name) (sym (get_or-map name_of queues j q (name_of q) inside))
        ∙ (ap (λ n. same_ignoring_case (get_or (map name_of queues) j (name_of q)) n)
        (ap name_of (sym read) ∙ sym (get_or-map name_of queues k q (name_of q) within))
        ∙ differ j k (name_of q) earlier last)
