-- What stands below a number in a list, where only members from that number on were added.
use Rattle.std.proofs.Common.{◌≡◌, ℕ, ◌<◌, ◌≤◌, Bool, true, false, not, ◌&&◌, ◌||◌, cond, eqb, ltb, List, [], ◌∷◌, ◌++◌, Option, Some, None, refl, sym, ap, ◌∙◌, append-nil, arith}
use Rattle.std.specs.List.{All, filter, filter_map, list_any, cons_option}
use Rattle.std.specs.Option.{IfSome}
use Rattle.std.proofs.lemmas.Bool.{ltb-true, true≢false}
use Rattle.std.proofs.lemmas.Bool.Decides.{nat_tests}
use Rattle.std.proofs.lemmas.List.Elements.{All-nil, All-cons, All-head, All-tail, filter-append, filter_agree}
use Rattle.std.proofs.lemmas.List.Folds.{list_any-append}

-- two filters are one
filter-filter : (p q : ℕ → Bool) (xs : List ℕ) → filter q (filter p xs) ≡ filter (λ x. p x && q x) xs
filter-filter p q [] = refl
filter-filter p q (x ∷ xs) = at (p x) (filter-filter p q xs)
  where
    at : (b : Bool) → filter q (filter p xs) ≡ filter (λ y. p y && q y) xs
        → filter q (cond b (x ∷ filter p xs) (filter p xs)) ≡ cond (b && q x) (x ∷ filter (λ y. p y && q y) xs) (filter (λ y. p y && q y) xs)
    at true same = ap (λ ys. cond (q x) (x ∷ ys) ys) same
    at false same = same

-- no member from n on is below n
none_below : (p : ℕ → Bool) (n : ℕ) (xs : List ℕ) → All (λ x. n ≤ x) xs → filter (λ x. p x && ltb x n) xs ≡ []
none_below p n [] high = refl
none_below p n (x ∷ xs) high =
    at (p x) (ltb x n) (grind (arith, nat_tests, All-head (λ y. n ≤ y) x xs high)) (none_below p n xs (All-tail (λ y. n ≤ y) x xs high))
  where
    at : (a b : Bool) → b ≡ false → filter (λ y. p y && ltb y n) xs ≡ []
        → cond (a && b) (x ∷ filter (λ y. p y && ltb y n) xs) (filter (λ y. p y && ltb y n) xs) ≡ []
    at true true is none = cc
    at true false is none = none
    at false b is none = none

-- a member below n is not among those from n on
not_among : (n x : ℕ) → x < n → (xs : List ℕ) → All (λ y. n ≤ y) xs → list_any (λ y. eqb y x) xs ≡ false
not_among n x lower [] high = refl
not_among n x lower (y ∷ ys) high =
    grind (arith, nat_tests, All-head (λ z. n ≤ z) y ys high, not_among n x lower ys (All-tail (λ z. n ≤ z) y ys high))

-- what a function gives of each item has a property
pub All-filter_map : {X : Type 0} (P : ℕ → Type 0) (h : X → Option ℕ) (xs : List X) → All (λ x. IfSome (h x) P) xs → All P (filter_map h xs)
All-filter_map P h [] each = All-nil P
All-filter_map P h (x ∷ xs) each =
    at (h x) (All-head (λ y. IfSome (h y) P) x xs each) (All-filter_map P h xs (All-tail (λ y. IfSome (h y) P) x xs each))
  where
    at : (o : Option ℕ) → IfSome o P → All P (filter_map h xs) → All P (cons_option o (filter_map h xs))
    at None first rest = rest
    at (Some y) first rest = All-cons P y (filter_map h xs) first rest

agreed : (a b t : Bool) → (t ≡ true → b ≡ false) → (not (a || b) && t) ≡ (not a && t)
agreed true b t none = refl
agreed false false t none = refl
agreed false true false none = refl
agreed false true true none = absurd (true≢false (none refl))

-- Added members that are not below n, gone or not, change nothing below n.
pub below-without : (n : ℕ) (gone more_gone xs more : List ℕ) → All (λ x. n ≤ x) more_gone → All (λ x. n ≤ x) more
    → filter (λ x. ltb x n) (filter (λ x. not (list_any (λ y. eqb y x) (gone ++ more_gone))) (xs ++ more))
    ≡ filter (λ x. ltb x n) (filter (λ x. not (list_any (λ y. eqb y x) gone)) xs)
below-without n gone more_gone xs more gone_high high =
    filter-filter p' T (xs ++ more)
    ∙ (filter-append both' xs more
    ∙ (ap (λ ys. filter both' xs ++ ys) (none_below p' n more high)
    ∙ (append-nil (filter both' xs)
    ∙ (filter_agree both' both agree xs
    ∙ sym (filter-filter p T xs)))))
  where
    T : ℕ → Bool
    T x = ltb x n

    p : ℕ → Bool
    p x = not (list_any (λ y. eqb y x) gone)

    p' : ℕ → Bool
    p' x = not (list_any (λ y. eqb y x) (gone ++ more_gone))

    both : ℕ → Bool
    both x = p x && T x

    both' : ℕ → Bool
    both' x = p' x && T x

    agree : (x : ℕ) → both' x ≡ both x
    agree x = rw (list_any-append (λ y. eqb y x) gone more_gone)
        (agreed (list_any (λ y. eqb y x) gone) (list_any (λ y. eqb y x) more_gone) (ltb x n) (λ t. not_among n x (ltb-true x n t) more_gone gone_high))
