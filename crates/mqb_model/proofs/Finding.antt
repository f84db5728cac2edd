-- The first member that passes, by the members one after another.
use Rattle.std.proofs.Common.{refl, ap, ◌∙◌, length, arith, one-add}
use Rattle.std.proofs.lemmas.Bool.Decides.{nat_tests}
use Rattle.std.specs.List.{AllByRecursion, prefix_len}
use Rattle.std.specs.Option.{option_map_or}
use Rattle.std.specs.Prelude.{◌+◌, ◌++◌, ◌∷◌, ◌≡◌, [], Bool, List, None, Option, Some, cond, false, nat_lt, not, option_and_then, option_map, position, slice_get, slice_set, suc, true, ℕ}
use Rattle.mqb_model.specs.Lists.{first_where, with_changed, with_first_changed}

first : (n : ℕ) → nat_lt 0 (suc n) ≡ true
first n = grind (arith, nat_tests)

more : (k n : ℕ) → nat_lt (1 + k) (suc n) ≡ nat_lt k n
more k n = grind (arith, nat_tests)

-- the index of the first member that passes: the first one's, or one more than that among the others
pub position_cons : {X : Type 0} (p : X → Bool) (x : X) (xs : List X) → position p (x ∷ xs) ≡ cond (p x) (Some 0) (option_map (λ k. suc k) (position p xs))
position_cons p x xs = at (p x)
  where
    n : ℕ
    n = prefix_len (λ x. not (p x)) xs

    rest : (b : Bool) → cond b (Some (1 + n)) None ≡ option_map (λ k. suc k) (cond b (Some n) None)
    rest true = ap (λ k. Some k) (one-add n)
    rest false = refl

    at : (b : Bool) → cond (nat_lt (cond (not b) (1 + n) 0) (suc (length xs))) (Some (cond (not b) (1 + n) 0)) None
        ≡ cond b (Some 0) (option_map (λ k. suc k) (cond (nat_lt n (length xs)) (Some n) None))
    at true = ap (λ c. cond c (Some 0) None) (first (length xs))
    at false = ap (λ c. cond c (Some (1 + n)) None) (more n (length xs)) ∙ rest (nat_lt n (length xs))

pub first_cons : {X : Type 0} (p : X → Bool) (x : X) (xs : List X) → first_where p (x ∷ xs) ≡ cond (p x) (Some x) (first_where p xs)
first_cons p x xs = ap (λ o. option_and_then (slice_get (x ∷ xs)) o) (position_cons p x xs) ∙ at (p x)
  where
    shifted : (o : Option ℕ) → option_and_then (slice_get (x ∷ xs)) (option_map (λ k. suc k) o) ≡ option_and_then (slice_get xs) o
    shifted None = refl
    shifted (Some k) = refl

    at : (b : Bool) → option_and_then (slice_get (x ∷ xs)) (cond b (Some 0) (option_map (λ k. suc k) (position p xs))) ≡ cond b (Some x) (first_where p xs)
    at true = refl
    at false = shifted (position p xs)

-- behind members that do not pass, the first one is
pub first_behind : {X : Type 0} (p : X → Bool) (before : List X) (x : X) (xs : List X) → AllByRecursion (λ y. p y ≡ false) before → p x ≡ true
    → first_where p (before ++ x ∷ xs) ≡ Some x
first_behind p [] x xs none e = first_cons p x xs ∙ ap (λ b. cond b (Some x) (first_where p xs)) e
first_behind p (y ∷ before) x xs none e = first_cons p y (before ++ x ∷ xs) ∙ ap (λ b. cond b (Some y) (first_where p (before ++ x ∷ xs))) none.0
    ∙ first_behind p before x xs none.1 e

changed_cons : {X : Type 0} (change : X → X) (y : X) (xs : List X) (k : ℕ) → with_changed change (y ∷ xs) (suc k) ≡ y ∷ with_changed change xs k
changed_cons change y xs k = at (slice_get xs k)
  where
    at : (o : Option _) → option_map_or (λ x. slice_set (y ∷ xs) (suc k) (change x)) o (y ∷ xs) ≡ y ∷ option_map_or (λ x. slice_set xs k (change x)) o xs
    at None = refl
    at (Some x) = refl

first_changed_cons : {X : Type 0} (change : X → X) (p : X → Bool) (y : X) (xs : List X) → p y ≡ false → with_first_changed change p (y ∷ xs) ≡ y ∷ with_first_changed change p xs
first_changed_cons change p y xs e = ap (λ o. option_map_or (with_changed change (y ∷ xs)) o (y ∷ xs))
    (position_cons p y xs ∙ ap (λ b. cond b (Some 0) (option_map (λ k. suc k) (position p xs))) e) ∙ at (position p xs)
  where
    at : (o : Option ℕ) → option_map_or (with_changed change (y ∷ xs)) (option_map (λ k. suc k) o) (y ∷ xs) ≡ y ∷ option_map_or (with_changed change xs) o xs
    at None = refl
    at (Some k) = changed_cons change y xs k

pub changed_behind : {X : Type 0} (change : X → X) (p : X → Bool) (before : List X) (x : X) (xs : List X) → AllByRecursion (λ y. p y ≡ false) before → p x ≡ true
    → with_first_changed change p (before ++ x ∷ xs) ≡ before ++ change x ∷ xs
changed_behind change p [] x xs none e = ap (λ o. option_map_or (with_changed change (x ∷ xs)) o (x ∷ xs))
    (position_cons p x xs ∙ ap (λ b. cond b (Some 0) (option_map (λ k. suc k) (position p xs))) e)
changed_behind change p (y ∷ before) x xs none e = first_changed_cons change p y (before ++ x ∷ xs) none.0
    ∙ ap (λ ys. y ∷ ys) (changed_behind change p before x xs none.1 e)
