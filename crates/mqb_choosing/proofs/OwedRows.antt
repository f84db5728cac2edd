-- Which incoming rows owe an acknowledgement: a list that is shorter than the rows.
use Rattle.std.proofs.Common.{sym, ap, ◌∙◌, length, arith, append_assoc}
use Rattle.std.proofs.lemmas.List.{length-set, replicate_more, set-append_left}
use Rattle.std.specs.Prelude.{[], ◌++◌, ◌+◌, ◌-◌, ◌<◌, ◌∷◌, ◌≡◌, ◌≤◌, Bool, List, None, Option, Some, false, replicate, slice_set, true, ℕ}
use Rattle.mqb_model.specs.Lists.{grown}
use Rattle.mqb_choosing.specs.Owed.{marked}
use Rattle.mqb_choosing.proofs.Rests.{grown_again, grown_length, no_more}

-- one member more
pub grown_more : (n : ℕ) (xs : List Bool) → length xs ≤ n → grown false n xs ++ false ∷ [] ≡ grown false (n + 1) xs
grown_more n xs le = let one : (n - length xs) + 1 ≡ (n + 1) - length xs = omega (arith, le) in
    append_assoc xs (replicate (n - length xs) false) (false ∷ [])
    ∙ ap (λ ys. xs ++ ys) (replicate_more (n - length xs) false ∙ ap (λ k. replicate k false) one)

-- as many members are missing
pub grown_same : (n k : ℕ) (xs : List Bool) → k - length xs ≡ n - length xs → grown false k xs ≡ grown false n xs
grown_same n k xs e = ap (λ count. xs ++ replicate count false) e

-- a mark stays where the list grows behind it
set_grown : (n k : ℕ) (xs : List Bool) → k < length xs → grown false n (slice_set xs k true) ≡ slice_set (grown false n xs) k true
set_grown n k xs lt = ap (λ len. slice_set xs k true ++ replicate (n - len) false) (length-set xs k true)
    ∙ sym (set-append_left xs (replicate (n - length xs) false) k true lt)

-- a row is marked in the list as it is, and in all of it
marked_in : (n k : ℕ) (xs : List Bool) → k + 1 ≤ n → grown false n (marked (Some k) xs) ≡ slice_set (grown false n xs) k true
marked_in n k xs le = let len = grown_length false (k + 1) xs in
    set_grown n k (grown false (k + 1) xs) (omega (arith, len)) ∙ ap (λ ys. slice_set ys k true) (grown_again false (k + 1) n xs le)

-- where the list with the mark has so many members then, it had no more
within : (n count : ℕ) (row : Option ℕ) (xs : List Bool) → length (grown false count (marked row (grown false n xs))) ≡ count → n ≤ count
within n count None xs e = no_more false n count xs e
within n count (Some k) xs e =
    let once = grown_length false n xs in
    let more = grown_length false (k + 1) (grown false n xs) in
    let set = length-set (grown false (k + 1) (grown false n xs)) k true in
    let all = grown_length false count (marked (Some k) (grown false n xs)) in
    omega (arith, e, once, more, set, all)

row_within : (n count k : ℕ) (xs : List Bool) → length (grown false count (marked (Some k) (grown false n xs))) ≡ count → k + 1 ≤ count
row_within n count k xs e =
    let more = grown_length false (k + 1) (grown false n xs) in
    let set = length-set (grown false (k + 1) (grown false n xs)) k true in
    let all = grown_length false count (marked (Some k) (grown false n xs)) in
    omega (arith, e, more, set, all)

-- a row is marked whether the others were added before it or behind it
pub marked_grown : (n count : ℕ) (row : Option ℕ) (xs : List Bool) → length (grown false count (marked row (grown false n xs))) ≡ count
    → grown false count (marked row xs) ≡ grown false count (marked row (grown false n xs))
marked_grown n count None xs e = sym (grown_again false n count xs (within n count None xs e))
marked_grown n count (Some k) xs e = let row = row_within n count k xs e in
    marked_in count k xs row
    ∙ ap (λ ys. slice_set ys k true) (sym (grown_again false n count xs (within n count (Some k) xs e)))
    ∙ sym (marked_in count k (grown false n xs) row)
