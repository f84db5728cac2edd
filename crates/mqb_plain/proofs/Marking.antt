-- What each change of a list does to its messages and their marks.
use Rattle.std.proofs.Common.{◌≡◌, ◌≤◌, ◌<◌, ℕ, zero, suc, ◌+◌, ◌-◌, Bool, true, false, cond, not, leb, List, [], ◌∷◌, ◌++◌, length, map, take, drop, Option, Some, None, refl, sym, ap, ◌∙◌, arith, slice_get}
use Rattle.std.specs.Option.{is_some}
use Rattle.std.specs.Prelude.{max, insert, remove, filter, count_by, fold, find, All, IsNone, IsSome, unwrap_or, option_map}
use Rattle.std.specs.List.{filter_map, prefix_len, AllByRecursion}
use Rattle.std.proofs.lemmas.Bool.{true≢false, ltb-false, le-ltb, lt-ltb}
use Rattle.std.proofs.lemmas.Bool.Decides.{nat_tests}
use Rattle.std.proofs.lemmas.List.{length-take}
use Rattle.std.proofs.lemmas.List.Folds.{length-prefix_len}
use Rattle.std.proofs.lemmas.List.Sums.{sum_by-cons}
use Rattle.std.proofs.lemmas.List.Elements.{All-from_recursion, All-head, All-tail}
use Rattle.mqb_base.specs.declared.message.Message.{Message}
use Rattle.mqb_plain.specs.declared.outgoing.Outgoing.{Outgoing}
use Rattle.mqb_plain.specs.Lists.{InOrder, marks_of, messages_of, unsent, first_unsent, marked_next, greatest_mark, unmarked, is_sent_by, RisesFrom, marked, Rising}

abbrev pub sent_as : Message → ℕ → Outgoing
sent_as m k = record { message = m; mark = Some k }

pub messages_marked : (ms : List Message) (ks : List ℕ) → messages_of (marked ms ks) ≡ ms
messages_marked [] ks = refl
messages_marked (m ∷ ms) [] = ap (λ (xs : List Message). m ∷ xs) (messages_marked ms [])
messages_marked (m ∷ ms) (k ∷ ks) = ap (λ (xs : List Message). m ∷ xs) (messages_marked ms ks)

pub length_marked : (ms : List Message) (ks : List ℕ) → length (marked ms ks) ≡ length ms
length_marked [] ks = refl
length_marked (m ∷ ms) [] = ap suc (length_marked ms [])
length_marked (m ∷ ms) (k ∷ ks) = ap suc (length_marked ms ks)

all_unsent : (ms : List Message) → AllByRecursion (λ o. IsNone o.mark) (marked ms [])
all_unsent [] = tt
all_unsent (m ∷ ms) = (refl, all_unsent ms)

pub marked_rises : (low : ℕ) (ms : List Message) (ks : List ℕ) → Rising low ks → RisesFrom low (marked ms ks)
marked_rises low [] ks rises = tt
marked_rises low (m ∷ ms) [] rises = All-from_recursion (λ o. IsNone o.mark) (marked ms []) (all_unsent ms)
marked_rises low (m ∷ ms) (k ∷ ks) rises = (rises.0, marked_rises k ms ks rises.1)

pub push_marked : (ms : List Message) (ks : List ℕ) (m : Message) → length ks ≤ length ms → marked (ms ++ m ∷ []) ks ≡ marked ms ks ++ unsent m ∷ []
push_marked [] [] m few = refl
push_marked [] (k ∷ ks) m few = absurd (omega (arith, few))
push_marked (n ∷ ms) [] m few = ap (λ (xs : List Outgoing). unsent n ∷ xs) (push_marked ms [] m (omega arith))
push_marked (n ∷ ms) (k ∷ ks) m few = ap (λ (xs : List Outgoing). sent_as n k ∷ xs) (push_marked ms ks m (omega (arith, few)))

pub first_marked : (ms : List Message) (ks : List ℕ) → length ks ≤ length ms → first_unsent (marked ms ks) ≡ slice_get ms (length ks)
first_marked [] [] few = refl
first_marked [] (k ∷ ks) few = absurd (omega (arith, few))
first_marked (m ∷ ms) [] few = refl
first_marked (m ∷ ms) (k ∷ ks) few = first_marked ms ks (omega (arith, few))

pub next_marked : (ms : List Message) (ks : List ℕ) (number : ℕ) → length ks < length ms → marked ms (ks ++ number ∷ []) ≡ marked_next number (marked ms ks)
next_marked [] ks number some = absurd (omega (arith, some))
next_marked (m ∷ ms) [] number some = refl
next_marked (m ∷ ms) (k ∷ ks) number some = ap (λ (xs : List Outgoing). sent_as m k ∷ xs) (next_marked ms ks number (omega (arith, some)))

pub none_marked : (ms : List Message) (ks : List ℕ) → marked ms [] ≡ unmarked (marked ms ks)
none_marked [] ks = refl
none_marked (m ∷ ms) [] = ap (λ (xs : List Outgoing). unsent m ∷ xs) (none_marked ms [])
none_marked (m ∷ ms) (k ∷ ks) = ap (λ (xs : List Outgoing). unsent m ∷ xs) (none_marked ms ks)

pub removed_marked : (ms : List Message) (ks : List ℕ) (at : ℕ) → at < length ms → marked (remove ms at) (remove ks at) ≡ remove (marked ms ks) at
removed_marked [] ks at within = absurd (omega (arith, within))
removed_marked (m ∷ ms) [] zero within = refl
removed_marked (m ∷ ms) [] (suc at) within = ap (λ (xs : List Outgoing). unsent m ∷ xs) (nothing_removed ms at (omega (arith, within)))
  where
    nothing_removed : (ms : List Message) (at : ℕ) → at < length ms → marked (remove ms at) [] ≡ remove (marked ms []) at
    nothing_removed [] at within = absurd (omega (arith, within))
    nothing_removed (m ∷ ms) zero within = refl
    nothing_removed (m ∷ ms) (suc at) within = ap (λ (xs : List Outgoing). unsent m ∷ xs) (nothing_removed ms at (omega (arith, within)))
removed_marked (m ∷ ms) (k ∷ ks) zero within = refl
removed_marked (m ∷ ms) (k ∷ ks) (suc at) within = ap (λ (xs : List Outgoing). sent_as m k ∷ xs) (removed_marked ms ks at (omega (arith, within)))

-- a message and its mark
pub item_marked : (ms : List Message) (ks : List ℕ) (at : ℕ)
    → slice_get (marked ms ks) at ≡ option_map (λ m. record { message = m; mark = slice_get ks at }) (slice_get ms at)
item_marked [] ks at = refl
item_marked (m ∷ ms) [] zero = refl
item_marked (m ∷ ms) [] (suc at) = item_marked ms [] at
item_marked (m ∷ ms) (k ∷ ks) zero = refl
item_marked (m ∷ ms) (k ∷ ks) (suc at) = item_marked ms ks at

no_marks : (ms : List Message) → marks_of (marked ms []) ≡ []
no_marks [] = refl
no_marks (m ∷ ms) = no_marks ms

pub marks_marked : (ms : List Message) (ks : List ℕ) → length ks ≤ length ms → marks_of (marked ms ks) ≡ ks
marks_marked [] [] few = refl
marks_marked [] (k ∷ ks) few = absurd (omega (arith, few))
marks_marked (m ∷ ms) [] few = no_marks ms
marks_marked (m ∷ ms) (k ∷ ks) few = ap (λ (xs : List ℕ). k ∷ xs) (marks_marked ms ks (omega (arith, few)))

-- rising numbers
rising_lower : (a low : ℕ) (ks : List ℕ) → a ≤ low → Rising low ks → Rising a ks
rising_lower a low [] le rises = tt
rising_lower a low (k ∷ ks) le rises = (omega (arith, le, rises.0), rises.1)

pub rising_drop : (n low : ℕ) (ks : List ℕ) → Rising low ks → Rising low (drop n ks)
rising_drop zero low ks rises = rises
rising_drop (suc n) low [] rises = tt
rising_drop (suc n) low (k ∷ ks) rises = rising_lower low k (drop n ks) (omega (arith, rises.0)) (rising_drop n k ks rises.1)

pub rising_remove : (at low : ℕ) (ks : List ℕ) → Rising low ks → Rising low (remove ks at)
rising_remove zero low [] rises = tt
rising_remove (suc at) low [] rises = tt
rising_remove zero low (k ∷ ks) rises = rising_lower low k ks (omega (arith, rises.0)) rises.1
rising_remove (suc at) low (k ∷ ks) rises = (rises.0, rising_remove at k ks rises.1)

abbrev higher : ℕ → Outgoing → ℕ
higher n o = max n (unwrap_or o.mark 0)

fold_above : (n : ℕ) (items : List Outgoing) → n ≤ fold higher n items
fold_above n [] = omega arith
fold_above n (o ∷ items) = omega (arith, fold_above (higher n o) items)

pub rising_push : (low number : ℕ) (ms : List Message) (ks : List ℕ) → Rising low ks → length ks ≤ length ms → fold higher low (marked ms ks) < number → Rising low (ks ++ number ∷ [])
rising_push low number ms [] rises few above = (omega (arith, above, fold_above low (marked ms [])), tt)
rising_push low number [] (k ∷ ks) rises few above = absurd (omega (arith, few))
rising_push low number (m ∷ ms) (k ∷ ks) rises few above =
    let same : max low k ≡ k = omega (arith, rises.0) in
    (rises.0, rising_push k number ms ks rises.1 (omega (arith, few)) (rw (← same) above))

-- those that were sent with a number up to n
abbrev pub up_to : ℕ → ℕ → Bool
up_to n k = leb k n

pub record IsSplit (n : ℕ) (ms : List Message) (ks : List ℕ) (count : ℕ) : Type 0 where
  pub count_is : count_by (is_sent_by n) (marked ms ks) ≡ count
  pub first : filter (is_sent_by n) (marked ms ks) ≡ take count (marked ms ks)
  pub rest : filter (λ o. not (is_sent_by n o)) (marked ms ks) ≡ marked (drop count ms) (drop count ks)

counted : (n k : ℕ) (m : Message) (ms : List Message) (ks : List ℕ) (b : Bool) → leb k n ≡ b
    → count_by (is_sent_by n) (marked (m ∷ ms) (k ∷ ks)) ≡ cond b 1 0 + count_by (is_sent_by n) (marked ms ks)
counted n k m ms ks b is =
    sum_by-cons (λ o. cond (is_sent_by n o) 1 0) (sent_as m k) (marked ms ks) ∙ ap (λ (c : Bool). cond c 1 0 + count_by (is_sent_by n) (marked ms ks)) is

none_sent : (n low : ℕ) (ms : List Message) (ks : List ℕ) → n ≤ low → Rising low ks → IsSplit n ms ks 0
none_sent n low [] ks le rises = record { count_is = refl; first = refl; rest = refl }
none_sent n low (m ∷ ms) [] le rises =
    let later = none_sent n low ms [] le tt in
    let count = sum_by-cons (λ o. cond (is_sent_by n o) 1 0) (unsent m) (marked ms []) in
    record { count_is = omega (arith, count, later.count_is); first = later.first; rest = ap (λ (xs : List Outgoing). unsent m ∷ xs) later.rest }
none_sent n low (m ∷ ms) (k ∷ ks) le rises =
    let later = none_sent n k ms ks (omega (arith, le, rises.0)) rises.1 in
    let above : leb k n ≡ false = grind (arith, nat_tests) in
    record {
      count_is = omega (arith, counted n k m ms ks false above, later.count_is);
      first = rw above later.first;
      rest = rw above (ap (λ (xs : List Outgoing). sent_as m k ∷ xs) later.rest);
    }

one_sent : (n k : ℕ) (m : Message) (ms : List Message) (ks : List ℕ) (count : ℕ) → leb k n ≡ true → IsSplit n ms ks count → IsSplit n (m ∷ ms) (k ∷ ks) (suc count)
one_sent n k m ms ks count is s = record {
  count_is = omega (arith, counted n k m ms ks true is, s.count_is);
  first = rw is (ap (λ (xs : List Outgoing). sent_as m k ∷ xs) s.first);
  rest = rw is s.rest;
}

choose : (n low k : ℕ) (m : Message) (ms : List Message) (ks : List ℕ) (b : Bool) → leb k n ≡ b → (low < k) × Rising k ks → IsSplit n ms ks (prefix_len (up_to n) ks)
    → IsSplit n (m ∷ ms) (k ∷ ks) (cond b (suc (prefix_len (up_to n) ks)) 0)
choose n low k m ms ks true is rises s = one_sent n k m ms ks (prefix_len (up_to n) ks) is s
choose n low k m ms ks false is rises s =
    let above : n ≤ k - 1 = grind (arith, nat_tests) in
    none_sent n (k - 1) (m ∷ ms) (k ∷ ks) above (omega (arith, rises.0), rises.1)

pub split_at_number : (n low : ℕ) (ms : List Message) (ks : List ℕ) → length ks ≤ length ms → Rising low ks → IsSplit n ms ks (prefix_len (up_to n) ks)
split_at_number n low ms [] few rises = none_sent n n ms [] (omega arith) tt
split_at_number n low [] (k ∷ ks) few rises = absurd (omega (arith, few))
split_at_number n low (m ∷ ms) (k ∷ ks) few rises =
    let later = split_at_number n k ms ks (omega (arith, few)) rises.1 in
    let more : suc (prefix_len (up_to n) ks) ≡ 1 + prefix_len (up_to n) ks = omega arith in
    rw (← more) (choose n low k m ms ks (leb k n) refl rises later)

pub unsent_left : (ms : List Message) (ks : List ℕ) → length ks ≤ length ms → IsSome (first_unsent (marked ms ks)) → length ks < length ms
unsent_left [] [] few some = absurd cc
unsent_left [] (k ∷ ks) few some = absurd (omega (arith, few))
unsent_left (m ∷ ms) [] few some = omega arith
unsent_left (m ∷ ms) (k ∷ ks) few some = omega (arith, unsent_left ms ks (omega (arith, few)) some)

pub up_to_count : (n : ℕ) (ks : List ℕ) → length (take (prefix_len (up_to n) ks) ks) ≡ prefix_len (up_to n) ks
up_to_count n ks = length-prefix_len (up_to n) ks

pub up_to_few : (n : ℕ) (ks : List ℕ) → prefix_len (up_to n) ks ≤ length ks
up_to_few n ks = omega (arith, up_to_count n ks, length-take (prefix_len (up_to n) ks) ks)

pub length_removed : (ms : List Message) (ks : List ℕ) (at : ℕ) → at < length ms → length ks ≤ length ms → length (remove ks at) ≤ length (remove ms at)
length_removed [] ks at within few = absurd (omega (arith, within))
length_removed (m ∷ ms) [] zero within few = omega arith
length_removed (m ∷ ms) [] (suc at) within few = omega arith
length_removed (m ∷ ms) (k ∷ ks) zero within few = omega (arith, few)
length_removed (m ∷ ms) (k ∷ ks) (suc at) within few = omega (arith, length_removed ms ks at (omega (arith, within)) (omega (arith, few)))

pub count_is : (n : ℕ) (ks xs : List ℕ) (count : ℕ) → count ≡ length (take (prefix_len (up_to n) xs) xs) → xs ≡ ks → count ≡ prefix_len (up_to n) ks
count_is n ks xs count counted same = counted ∙ ap (λ (ys : List ℕ). length (take (prefix_len (up_to n) ys) ys)) same ∙ up_to_count n ks

-- A message that is put into a list which stays in order.

-- the marks of a list in order rise
rising_of : (low : ℕ) (ms : List Message) (ks : List ℕ) → length ks ≤ length ms → RisesFrom low (marked ms ks) → Rising low ks
rising_of low ms [] few rises = tt
rising_of low [] (k ∷ ks) few rises = absurd (omega (arith, few))
rising_of low (m ∷ ms) (k ∷ ks) few rises = (rises.0, rising_of k ms ks (omega (arith, few)) rises.1)

-- a sent message does not stand behind an unsent one
none_sent_behind : (items : List Outgoing) (at : ℕ) (o : Outgoing) (k : ℕ) → at ≤ length items → o.mark ≡ Some k → All (λ p. IsNone p.mark) (insert items at o) → ⊥
none_sent_behind items zero o k within is none = true≢false (sym (ap is_some is) ∙ All-head (λ p. IsNone p.mark) o items none)
none_sent_behind [] (suc at) o k within is none = omega (arith, within)
none_sent_behind (p ∷ items) (suc at) o k within is none =
    none_sent_behind items at o k (omega (arith, within)) is (All-tail (λ p. IsNone p.mark) p (insert items at o) none)

-- a sent message goes among the sent ones
pub record SentIsPut (low : ℕ) (ms : List Message) (ks : List ℕ) (at : ℕ) (m : Message) (k : ℕ) : Type 0 where
  pub within : at ≤ length ks
  pub rising : Rising low (insert ks at k)
  pub list : marked (insert ms at m) (insert ks at k) ≡ insert (marked ms ks) at (sent_as m k)

pub sent_is_put : (low : ℕ) (ms : List Message) (ks : List ℕ) (at : ℕ) (m : Message) (k : ℕ) → at ≤ length ms → length ks ≤ length ms
    → RisesFrom low (insert (marked ms ks) at (sent_as m k)) → SentIsPut low ms ks at m k
sent_is_put low ms ks zero m k within few rises = record {
  within = omega arith;
  rising = (rises.0, rising_of k ms ks few rises.1);
  list = refl;
}
sent_is_put low [] ks (suc at) m k within few rises = absurd (omega (arith, within))
sent_is_put low (n ∷ ms) [] (suc at) m k within few rises =
    absurd (none_sent_behind (marked ms []) at (sent_as m k) k (omega (arith, within, length_marked ms [])) refl rises)
sent_is_put low (n ∷ ms) (j ∷ ks) (suc at) m k within few rises =
    let behind = sent_is_put j ms ks at m k (omega (arith, within)) (omega (arith, few)) rises.1 in
    record {
      within = omega (arith, behind.within);
      rising = (rises.0, behind.rising);
      list = ap (λ (xs : List Outgoing). sent_as n j ∷ xs) behind.list;
    }

unsent_put : (ms : List Message) (at : ℕ) (m : Message) → at ≤ length ms → marked (insert ms at m) [] ≡ insert (marked ms []) at (unsent m)
unsent_put ms zero m within = refl
unsent_put [] (suc at) m within = absurd (omega (arith, within))
unsent_put (n ∷ ms) (suc at) m within = ap (λ (xs : List Outgoing). unsent n ∷ xs) (unsent_put ms at m (omega (arith, within)))

-- an unsent message goes behind the sent ones
pub unsent_is_put : (low : ℕ) (ms : List Message) (ks : List ℕ) (at : ℕ) (m : Message) → at ≤ length ms → length ks ≤ length ms
    → RisesFrom low (insert (marked ms ks) at (unsent m)) → marked (insert ms at m) ks ≡ insert (marked ms ks) at (unsent m)
unsent_is_put low ms [] at m within few rises = unsent_put ms at m within
unsent_is_put low [] (k ∷ ks) at m within few rises = absurd (omega (arith, few))
unsent_is_put low (n ∷ ms) (k ∷ ks) zero m within few rises =
    absurd (true≢false (All-head (λ p. IsNone p.mark) (sent_as n k) (marked ms ks) rises))
unsent_is_put low (n ∷ ms) (k ∷ ks) (suc at) m within few rises =
    ap (λ (xs : List Outgoing). sent_as n k ∷ xs) (unsent_is_put k ms ks at m (omega (arith, within)) (omega (arith, few)) rises.1)
