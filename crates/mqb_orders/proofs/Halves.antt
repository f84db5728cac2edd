-- What is known of kept messages where the first ones have numbers up to another one, and the rest have greater ones.
use Rattle.std.proofs.Common.{◌≡◌, ℕ, ◌<◌, ◌≤◌, ◌+◌, inl, inr, get_or, zero, suc, Bool, true, false, cond, max, ltb, leb, ◌||◌, List, [], ◌∷◌, length, take, drop, map, Option, Some, None, refl, sym, ap, ◌∙◌, subst, arith}
use Rattle.std.specs.List.{All, AllPairs, filter, find, fold, list_any, slice_get, AllWithin}
use Rattle.std.specs.List.Sorted.{IsNonDecreasingBy}
use Rattle.std.specs.Option.{option_map}
use Rattle.std.proofs.lemmas.Bool.{true≢false, cases_lt, le-ltb, lt-ltb, leb-true, leb-false}
use Rattle.std.proofs.lemmas.Option.{none-some, same_Some, slice_get_within, get_or_from_slice_get}
use Rattle.std.proofs.lemmas.List.{length-take, length-drop, get_or-take, get_or-drop}
use Rattle.std.proofs.lemmas.List.Elements.{All-head, All-tail}
use Rattle.mqb_base.specs.Bits.{keeps_dead}
use Rattle.mqb_orders.specs.declared.kept.Kept.{Kept}
use Rattle.mqb_orders.specs.KeptLists.{Rises, numbers, released}
use Rattle.mqb_orders.specs.Rows.{greatest_below, next_kept, has_unacknowledged}

tail_rises : (k : Kept) (kept : List Kept) → Rises (k ∷ kept) → Rises kept
tail_rises k kept rises i j d before within = rises (suc i) (suc j) d (omega arith) (omega arith)

pub rises_weakly : (kept : List Kept) → Rises kept → IsNonDecreasingBy (λ k. k.number) kept
rises_weakly [] rises i j d le within = absurd (omega arith)
rises_weakly (k ∷ kept) rises zero zero d le within = omega arith
rises_weakly (k ∷ kept) rises zero (suc j) d le within = let less = rises zero (suc j) d (omega arith) (omega arith) in omega (arith, less)
rises_weakly (k ∷ kept) rises (suc i) zero d le within = absurd (omega arith)
rises_weakly (k ∷ kept) rises (suc i) (suc j) d le within = rises_weakly kept (tail_rises k kept rises) i j d (omega arith) (omega arith)

pub rises_behind : (count : ℕ) (kept : List Kept) → Rises kept → Rises (drop count kept)
rises_behind zero kept rises = rises
rises_behind (suc count) [] rises = rises
rises_behind (suc count) (k ∷ kept) rises = rises_behind count kept (tail_rises k kept rises)

-- the next number above another one is that of the first of the rest
pub next_is : (after : ℕ) (kept : List Kept) (count : ℕ) → All (λ k. k.number ≤ after) (take count kept) → All (λ k. after < k.number) (drop count kept)
    → next_kept kept after ≡ option_map (λ k. k.number) (slice_get kept count)
next_is after [] count low high = refl
next_is after (k ∷ kept) zero low high =
    ap (λ b. cond b (Some k.number) (find (λ x. ltb after x) (numbers kept))) (lt-ltb after k.number (All-head (λ k. after < k.number) k kept high))
next_is after (k ∷ kept) (suc count) low high =
    ap (λ b. cond b (Some k.number) (find (λ x. ltb after x) (numbers kept)))
    (le-ltb after k.number (All-head (λ k. k.number ≤ after) k (take count kept) low))
    ∙ next_is after kept count (All-tail (λ k. k.number ≤ after) k (take count kept) low) high

-- no number is below one that all are above
pub none_below : (low n : ℕ) (kept : List Kept) → All (λ k. n ≤ k.number) kept → greatest_below low n (numbers kept) ≡ low
none_below low n [] high = refl
none_below low n (k ∷ kept) high =
    ap (λ b. fold max low (cond b (k.number ∷ filter (λ x. ltb x n) (numbers kept)) (filter (λ x. ltb x n) (numbers kept))))
    (le-ltb k.number n (All-head (λ k. n ≤ k.number) k kept high))
    ∙ none_below low n kept (All-tail (λ k. n ≤ k.number) k kept high)

-- a number that counts raises what is the greatest
raised : (low n : ℕ) (k : Kept) (kept : List Kept) → k.number < n
    → greatest_below low n (numbers (k ∷ kept)) ≡ greatest_below (max low k.number) n (numbers kept)
raised low n k kept below =
    ap (λ b. fold max low (cond b (k.number ∷ filter (λ x. ltb x n) (numbers kept)) (filter (λ x. ltb x n) (numbers kept)))) (lt-ltb k.number n below)

-- The greatest number below another one is that of the last of the first ones, or what was there before.
pub link_is : (low n : ℕ) (kept : List Kept) (count : ℕ) (last : Kept) → Rises kept → All (λ k. k.number < n) (take (suc count) kept)
    → All (λ k. n ≤ k.number) (drop (suc count) kept) → slice_get kept count ≡ Some last → greatest_below low n (numbers kept) ≡ max low last.number
link_is low n [] count last rises below above is = absurd (none-some last is)
link_is low n (k ∷ kept) zero last rises below above is =
    raised low n k kept (All-head (λ k. k.number < n) k [] below)
    ∙ (none_below (max low k.number) n kept above ∙ ap (λ m. max low m.number) (same_Some k last is))
link_is low n (k ∷ kept) (suc count) last rises below above is =
    raised low n k kept (All-head (λ k. k.number < n) k (take (suc count) kept) below)
    ∙ (link_is (max low k.number) n kept count last (tail_rises k kept rises) (All-tail (λ k. k.number < n) k (take (suc count) kept) below) above is
    ∙ greater (subst (λ (m : Kept). k.number < m.number) (get_or_from_slice_get kept count last last is)
    (rises zero (suc count) last (omega arith) (omega (arith, slice_get_within kept count last is)))))
  where
    greater : k.number < last.number → max (max low k.number) last.number ≡ max low last.number
    greater less = grind (arith, less)

-- whatever is above a number is kept
all_stay : (number : ℕ) (kept : List Kept) → All (λ k. number < k.number) kept → released number kept ≡ kept
all_stay number [] high = refl
all_stay number (k ∷ kept) high =
    ap (λ b. cond (b || keeps_dead k.message) (k ∷ released number kept) (released number kept))
    (lt-ltb number k.number (All-head (λ k. number < k.number) k kept high))
    ∙ ap (λ (ks : List Kept). k ∷ ks) (all_stay number kept (All-tail (λ k. number < k.number) k kept high))

-- Where the first ones have no dead-letter bit, what is kept are the rest.
pub rest_stays : (number : ℕ) (kept : List Kept) (count : ℕ) → All (λ k. k.number ≤ number) (take count kept) → All (λ k. number < k.number) (drop count kept)
    → list_any (λ k. keeps_dead k.message) (take count kept) ≡ false → released number kept ≡ drop count kept
rest_stays number [] zero low high dead = refl
rest_stays number [] (suc count) low high dead = refl
rest_stays number (k ∷ kept) zero low high dead = all_stay number (k ∷ kept) high
rest_stays number (k ∷ kept) (suc count) low high dead =
    ap (λ b. cond (b || keeps_dead k.message) (k ∷ released number kept) (released number kept))
    (le-ltb number k.number (All-head (λ k. k.number ≤ number) k (take count kept) low))
    ∙ at (keeps_dead k.message) dead (rest_stays number kept count (All-tail (λ k. k.number ≤ number) k (take count kept) low) high)
  where
    at : (b : Bool) → (b || list_any (λ k. keeps_dead k.message) (take count kept)) ≡ false
        → (list_any (λ k. keeps_dead k.message) (take count kept) ≡ false → released number kept ≡ drop count kept)
        → cond (false || b) (k ∷ released number kept) (released number kept) ≡ drop count kept
    at true h rest = absurd (true≢false h)
    at false h rest = rest h

or_none : (b : Bool) → (b || false) ≡ b
or_none true = refl
or_none false = refl

-- The last of rising numbers is above another one where some number is.
pub any_is_last : (acked : ℕ) (kept : List Kept) (count : ℕ) (last : Kept) → Rises kept → length kept ≡ suc count → slice_get kept count ≡ Some last
    → list_any (λ k. ltb acked k.number) kept ≡ ltb acked last.number
any_is_last acked [] count last rises long is = absurd (none-some last is)
any_is_last acked (k ∷ []) zero last rises long is = or_none (ltb acked k.number) ∙ ap (λ (m : Kept). ltb acked m.number) (same_Some k last is)
any_is_last acked (k ∷ j ∷ kept) zero last rises long is = absurd (omega (arith, long))
any_is_last acked (k ∷ kept) (suc count) last rises long is =
    ap (λ b. ltb acked k.number || b) (any_is_last acked kept count last (tail_rises k kept rises) (omega (arith, long)) is)
    ∙ covered (subst (λ (m : Kept). k.number < m.number) (get_or_from_slice_get kept count last last is)
    (rises zero (suc count) last (omega arith) (omega (arith, long))))
  where
    covered : k.number < last.number → (ltb acked k.number || ltb acked last.number) ≡ ltb acked last.number
    covered less = elim (cases_lt acked k.number) [
      | inl above ↦ ap (λ b. b || ltb acked last.number) (lt-ltb acked k.number above) ∙ sym (lt-ltb acked last.number (omega (arith, less, above)))
      | inr below ↦ ap (λ b. b || ltb acked last.number) (le-ltb acked k.number below)
    ]

-- what halving says of the first ones, and of the rest
pub first_from_point : (number : ℕ) (kept : List Kept) (count : ℕ) → AllWithin (λ k. leb k.number number ≡ true) kept 0 count
    → All (λ k. k.number ≤ number) (take count kept)
first_from_point number kept count point k d within =
    let below : k < count = omega (arith, within, length-take count kept) in
    subst (λ (m : Kept). m.number ≤ number) (sym (get_or-take count kept k d below))
    (leb-true (get_or kept k d).number number (point k d (omega arith) below))

pub rest_from_point : (number : ℕ) (kept : List Kept) (count : ℕ) → AllWithin (λ k. leb k.number number ≡ false) kept count (length kept)
    → All (λ k. number < k.number) (drop count kept)
rest_from_point number kept count point k d within =
    subst (λ (m : Kept). number < m.number) (sym (get_or-drop count kept k d))
    (leb-false (get_or kept (count + k) d).number number (point (count + k) d (omega arith) (omega (arith, within, length-drop count kept))))

-- what is behind a number that is above another one is above that too
pub rest_from_found : (number : ℕ) (kept : List Kept) (at : ℕ) → Rises kept → ((d : Kept) → number < (get_or kept at d).number)
    → All (λ k. number < k.number) (drop at kept)
rest_from_found number kept at rises found zero d within =
    subst (λ (m : Kept). number < m.number) (sym (get_or-drop at kept 0 d ∙ ap (λ (i : ℕ). get_or kept i d) (omega arith))) (found d)
rest_from_found number kept at rises found (suc k) d within =
    let later = rises at (at + suc k) d (omega arith) (omega (arith, within, length-drop at kept)) in
    subst (λ (m : Kept). number < m.number) (sym (get_or-drop at kept (suc k) d)) (omega (arith, found d, later))
