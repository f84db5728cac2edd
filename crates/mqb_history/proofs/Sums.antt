-- Sums over all managers, and what words count in lists.
use Rattle.std.proofs.Common.{refl, ap, arith, inl, inr}
use Rattle.std.proofs.lemmas.Bool.Decides.{nat_tests}
use Rattle.std.proofs.lemmas.List.Sums.{sum_by-cons}
use Rattle.std.specs.List.{cons_option}
use Rattle.std.specs.Option.{option_map_or}
use Rattle.std.specs.Prelude.{[], ◌+◌, ◌<◌, ◌==◌, ◌∷◌, ◌≡◌, ◌≤◌, Bool, List, None, Option, Some, cond, count_by, false, filter_map, length, slice_get, suc, sum_by, true, unwrap_or, zero, ℕ}
use Rattle.mqb_base.specs.Same.{same_id}
use Rattle.mqb_base.specs.declared.ids.MessageId.{MessageId}
use Rattle.mqb_base.specs.declared.ledger.Line.{Line}
use Rattle.mqb_exactly_once.specs.Words.{In}
use Rattle.mqb_model.specs.records.Applying.{lines_of}
use Rattle.mqb_network.specs.Courses.{Written}
use Rattle.mqb_network.specs.Laws.{lines_written}
use Rattle.mqb_history.specs.Copies.{times}
use Rattle.mqb_history.specs.Decided.{written_of}
use Rattle.mqb_history.proofs.Lists.{equal_numbers, other_numbers}
use Rattle.mqb_history.proofs.Tallies.{tally, tally_append, weight}

-- Below a count.

abbrev pub summed : (ℕ → ℕ) → ℕ → ℕ
summed f zero = 0
summed f (suc n) = summed f n + f n

summed_first : (f : ℕ → ℕ) (n : ℕ) → summed f (suc n) ≡ f 0 + summed (λ k. f (suc k)) n
summed_first f zero = omega arith
summed_first f (suc n) = let rest = summed_first f n in omega (arith, rest)

pub summed_plus : (f g : ℕ → ℕ) (n : ℕ) → summed (λ k. f k + g k) n ≡ summed f n + summed g n
summed_plus f g zero = omega arith
summed_plus f g (suc n) = let rest = summed_plus f g n in omega (arith, rest)

pub summed_less : (f g : ℕ → ℕ) (n : ℕ) → ((k : ℕ) → k < n → f k ≤ g k) → summed f n ≤ summed g n
summed_less f g zero less = omega arith
summed_less f g (suc n) less = let rest = summed_less f g n (λ k lt. less k (omega (arith, lt))) in let last = less n (omega arith) in omega (arith, rest, last)

summed_same : (f g : ℕ → ℕ) (n : ℕ) → ((k : ℕ) → f k ≡ g k) → summed f n ≡ summed g n
summed_same f g zero same = omega arith
summed_same f g (suc n) same = let rest = summed_same f g n same in let last = same n in omega (arith, rest, last)

summed_none : (f : ℕ → ℕ) (n : ℕ) → ((k : ℕ) → k < n → f k ≡ 0) → summed f n ≡ 0
summed_none f zero none = omega arith
summed_none f (suc n) none = let rest = summed_none f n (λ k lt. none k (omega (arith, lt))) in let last = none n (omega arith) in omega (arith, rest, last)

-- where one counts, no other does
pub summed_one : (f : ℕ → ℕ) (n : ℕ) → ((k : ℕ) → f k ≤ 1) → ((j k : ℕ) → j < n → k < n → 1 ≤ f j → 1 ≤ f k → j ≡ k) → summed f n ≤ 1
summed_one f zero few one = omega arith
summed_one f (suc n) few one = at (f n) refl (summed_one f n few (λ j k a b. one j k (omega (arith, a)) (omega (arith, b))))
  where
    at : (y : ℕ) → f n ≡ y → summed f n ≤ 1 → summed f (suc n) ≤ 1
    at zero e rest = omega (arith, rest, e)
    at (suc y) e rest = let none = summed_none f n (λ k lt. others k lt (f k) refl) in let le = few n in omega (arith, none, le)
      where
        others : (k : ℕ) → k < n → (z : ℕ) → f k ≡ z → f k ≡ 0
        others k lt zero g = g
        others k lt (suc z) g = let same = one k n (omega (arith, lt)) (omega arith) (omega (arith, g)) (omega (arith, e)) in absurd (omega (arith, same, lt))

not_last : (b n : ℕ) → b < suc n → (b == n) ≡ false → b < n
not_last b n lt e = grind (arith, nat_tests)

summed_pick : (b a n : ℕ) → b < n → summed (λ k. cond (b == k) a 0) n ≡ a
summed_pick b a zero lt = absurd (omega (arith, lt))
summed_pick b a (suc n) lt = at (b == n) refl (λ e. summed_pick b a n (not_last b n lt e))
  where
    at : (t : Bool) → (b == n) ≡ t → ((b == n) ≡ false → summed (λ k. cond (b == k) a 0) n ≡ a) → summed (λ k. cond (b == k) a 0) n + cond t a 0 ≡ a
    at true e rest = let same = equal_numbers b n e in let none = summed_none (λ k. cond (b == k) a 0) n (λ k less. ap (λ t. cond t a 0) (other_numbers b k (λ f. omega (arith, same, less, f)))) in omega (arith, none)
    at false e rest = let there = rest e in omega (arith, there)

-- Members by their indexes, and lines by the managers whose records say them.

pub tally_members : {X : Type 0} (g : X → ℕ) (xs : List X) (d : X) → tally g xs ≡ summed (λ k. g (unwrap_or (slice_get xs k) d)) (length xs)
tally_members g [] d = omega arith
tally_members g (x ∷ xs) d = let rest = tally_members g xs d in let first = summed_first (λ k. g (unwrap_or (slice_get (x ∷ xs) k) d)) (length xs) in omega (arith, rest, first)

pub lines_split : (f : Line → ℕ) (ws : List Written) (n : ℕ) → ((w : Written) → In w ws → w.by < n) → tally f (lines_written ws) ≡ summed (λ k. tally f (lines_written (written_of k ws))) n
lines_split f [] n within = let none = summed_none (λ k. tally f (lines_written (written_of k []))) n (λ k lt. omega arith) in omega (arith, none)
lines_split f (w ∷ ws) n within = let own = tally_append f (lines_of w.before w.entry) (lines_written ws) in let rest = lines_split f ws n (λ v i. within v (inr i)) in
    let each = summed_same (λ k. tally f (lines_written (written_of k (w ∷ ws)))) (λ k. cond (w.by == k) first 0 + tally f (lines_written (written_of k ws))) n (λ k. at k (w.by == k)) in
    let plus = summed_plus (λ k. cond (w.by == k) first 0) (λ k. tally f (lines_written (written_of k ws))) n in let pick = summed_pick w.by first n (within w (inl refl)) in omega (arith, own, rest, each, plus, pick)
  where
    first : ℕ
    first = tally f (lines_of w.before w.entry)

    at : (k : ℕ) (b : Bool) → tally f (lines_written (cond b (w ∷ written_of k ws) (written_of k ws))) ≡ cond b first 0 + tally f (lines_written (written_of k ws))
    at k true = tally_append f (lines_of w.before w.entry) (lines_written (written_of k ws))
    at k false = omega arith

pub written_split : (f : Written → ℕ) (ws : List Written) (n : ℕ) → ((w : Written) → In w ws → w.by < n) → tally f ws ≡ summed (λ k. tally f (written_of k ws)) n
written_split f [] n within = let none = summed_none (λ k. tally f (written_of k [])) n (λ k lt. omega arith) in omega (arith, none)
written_split f (w ∷ ws) n within = let rest = written_split f ws n (λ v i. within v (inr i)) in
    let each = summed_same (λ k. tally f (written_of k (w ∷ ws))) (λ k. cond (w.by == k) (f w) 0 + tally f (written_of k ws)) n (λ k. at k (w.by == k)) in
    let plus = summed_plus (λ k. cond (w.by == k) (f w) 0) (λ k. tally f (written_of k ws)) n in let pick = summed_pick w.by (f w) n (within w (inl refl)) in omega (arith, rest, each, plus, pick)
  where
    at : (k : ℕ) (b : Bool) → tally f (cond b (w ∷ written_of k ws) (written_of k ws)) ≡ cond b (f w) 0 + tally f (written_of k ws)
    at k true = omega arith
    at k false = omega arith

-- Words.

pub tally_is : {X : Type 0} (f : X → ℕ) (xs : List X) → sum_by f xs ≡ tally f xs
tally_is f [] = omega arith
tally_is f (x ∷ xs) = let first = sum_by-cons f x xs in let rest = tally_is f xs in omega (arith, first, rest)

-- how often a line says so of a message
abbrev pub word : (Line → Option MessageId) → MessageId → Line → ℕ
word kind id l = option_map_or (weight id) (kind l) 0

pub times_is : (kind : Line → Option MessageId) (id : MessageId) (ls : List Line) → times kind id ls ≡ tally (word kind id) ls
times_is kind id [] = omega arith
times_is kind id (l ∷ ls) = at (kind l) (times_is kind id ls)
  where
    at : (o : Option MessageId) → times kind id ls ≡ tally (word kind id) ls → count_by (same_id id) (cons_option o (filter_map kind ls)) ≡ option_map_or (weight id) o 0 + tally (word kind id) ls
    at None rest = omega (arith, rest)
    at (Some y) rest = let first = sum_by-cons (λ z. cond (same_id id z) 1 0) y (filter_map kind ls) in omega (arith, rest, first)

pub tally_plus : {X : Type 0} (f g h : X → ℕ) (xs : List X) → ((x : X) → f x ≡ g x + h x) → tally f xs ≡ tally g xs + tally h xs
tally_plus f g h [] same = omega arith
tally_plus f g h (x ∷ xs) same = let one = same x in let rest = tally_plus f g h xs same in omega (arith, one, rest)
