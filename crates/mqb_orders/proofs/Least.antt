-- The first member above a number, in a list that rises, is the least one.
use Rattle.std.proofs.Common.{◌≡◌, ℕ, ◌<◌, ◌≤◌, Bool, true, false, cond, ltb, List, [], ◌∷◌, suc, Option, Some, None, refl, arith}
use Rattle.std.specs.List.{All, AllPairs, find}
use Rattle.std.proofs.lemmas.Bool.{ltb-true, ltb-false}
use Rattle.std.proofs.lemmas.List.Elements.{All-nil, All-cons, All-weaker, All-map}
use Rattle.std.proofs.lemmas.List.Kept.{AllPairs-cons}
use Rattle.mqb_orders.specs.declared.kept.Kept.{Kept}
use Rattle.mqb_orders.specs.KeptLists.{numbers}
use Rattle.mqb_orders.specs.Rows.{IsLeastAbove, IsNextAbove}
use Rattle.mqb_orders.proofs.Members.{Contains-front, Contains-behind}

tail_rises : (x : ℕ) (xs : List ℕ) → AllPairs (λ y z. y < z) (x ∷ xs) → AllPairs (λ y z. y < z) xs
tail_rises x xs rises i j d before within = rises (suc i) (suc j) d (omega arith) (omega arith)

all_above_head : (x : ℕ) (xs : List ℕ) → AllPairs (λ y z. y < z) (x ∷ xs) → All (λ y. x < y) xs
all_above_head x xs rises k d within = rises 0 (suc k) d (omega arith) (omega arith)

-- the head of a list that rises is above the number
head_is_least : (after x : ℕ) (xs : List ℕ) → AllPairs (λ y z. y < z) (x ∷ xs) → after < x → IsLeastAbove after (x ∷ xs) x
head_is_least after x xs rises above = record {
  above = above;
  member = Contains-front x xs;
  least = All-cons (λ y. after < y → x ≤ y) x xs (λ h. omega arith)
      (All-weaker (λ y. x < y) (λ y. after < y → x ≤ y) (λ y higher h. omega arith) xs (all_above_head x xs rises));
}

-- a head that is not above it changes nothing
behind : (after x : ℕ) (xs : List ℕ) → x ≤ after → (next : Option ℕ) → IsNextAbove after xs next → IsNextAbove after (x ∷ xs) next
behind after x xs low None none = All-cons (λ y. y ≤ after) x xs low none
behind after x xs low (Some m) is = record {
  above = is.above;
  member = Contains-behind x xs m is.member;
  least = All-cons (λ y. after < y → m ≤ y) x xs (λ h. absurd (omega arith)) is.least;
}

pub is_next : (after : ℕ) (xs : List ℕ) → AllPairs (λ x y. x < y) xs → IsNextAbove after xs (find (λ x. ltb after x) xs)
is_next after [] rises = All-nil (λ x. x ≤ after)
is_next after (x ∷ xs) rises = at (ltb after x) (λ t. ltb-true after x t) (λ f. ltb-false after x f) (is_next after xs (tail_rises x xs rises))
  where
    at : (b : Bool) → (b ≡ true → after < x) → (b ≡ false → x ≤ after) → IsNextAbove after xs (find (λ y. ltb after y) xs)
        → IsNextAbove after (x ∷ xs) (cond b (Some x) (find (λ y. ltb after y) xs))
    at true higher lower behind_it = head_is_least after x xs rises (higher refl)
    at false higher lower behind_it = behind after x xs (lower refl) (find (λ y. ltb after y) xs) behind_it

-- numbers rise where their messages do
pub numbers_rise : (kept : List Kept) → AllPairs (λ j k. j.number < k.number) kept → AllPairs (λ x y. x < y) (numbers kept)
numbers_rise [] rises = λ i j d before within. absurd (omega arith)
numbers_rise (k ∷ kept) rises =
    AllPairs-cons (λ x y. x < y) k.number (numbers kept)
    (All-map (λ x. k.number < x) (λ (other : Kept). other.number) kept (λ i d within. rises 0 (suc i) d (omega arith) (omega arith)))
    (numbers_rise kept (λ i j d before within. rises (suc i) (suc j) d (omega arith) (omega arith)))
