-- The connections of a network: no two share an end, one that ends leaves the others, and one that begins joins them.
use Rattle.std.proofs.Common.{refl, ap, sym, subst, ◌∙◌, arith}
use Rattle.std.specs.List.{AllByRecursion, list_any}
use Rattle.std.specs.Prelude.{[], ◌&&◌, ◌+◌, ◌++◌, ◌==◌, ◌||◌, ◌∷◌, ◌≡◌, ◌≤◌, Bool, List, None, Option, Some, cond, false, filter, find, not, true, ℕ}
use Rattle.mqb_network.specs.Network.{Connection, is_end}
use Rattle.mqb_history.specs.Orderly.{AreAllDisjoint, AreDisjoint}
use Rattle.mqb_history.proofs.Lists.{all_append, all_filter, all_weaker, clash, equal_numbers, none_some, other_numbers, same_number, some_is, true_not_false}

pub any_append : {X : Type 0} (test : X → Bool) (xs ys : List X) → list_any test (xs ++ ys) ≡ (list_any test xs || list_any test ys)
any_append test [] ys = refl
any_append test (x ∷ xs) ys = ap (λ b. test x || b) (any_append test xs ys) ∙ at (test x)
  where
    at : (b : Bool) → (b || (list_any test xs || list_any test ys)) ≡ ((b || list_any test xs) || list_any test ys)
    at true = refl
    at false = refl

-- what is found passes, and what all have
pub found_passes : {X : Type 0} (test : X → Bool) (xs : List X) (x : X) → find test xs ≡ Some x → test x ≡ true
found_passes test [] x e = absurd (let none : ⊥ = cc in none)
found_passes test (y ∷ ys) x e = at (test y) refl e (found_passes test ys x)
  where
    at : (b : Bool) → test y ≡ b → cond b (Some y) (find test ys) ≡ Some x → (find test ys ≡ Some x → test x ≡ true) → test x ≡ true
    at true t e rest = subst (λ z. test z ≡ true) (some_is y x e) t
    at false t e rest = rest e

pub found_has : {X : Type 0} (P : X → Type 0) (test : X → Bool) (xs : List X) (x : X) → find test xs ≡ Some x → AllByRecursion P xs → P x
found_has P test [] x e h = absurd (let none : ⊥ = cc in none)
found_has P test (y ∷ ys) x e h = at (test y) e (λ f. found_has P test ys x f h.1)
  where
    at : (b : Bool) → cond b (Some y) (find test ys) ≡ Some x → (find test ys ≡ Some x → P x) → P x
    at true e rest = subst P (some_is y x e) h.0
    at false e rest = rest e

pub none_found : {X : Type 0} (test : X → Bool) (xs : List X) → find test xs ≡ None → list_any test xs ≡ false
none_found test [] e = refl
none_found test (y ∷ ys) e = at (test y) e (none_found test ys)
  where
    at : (b : Bool) → cond b (Some y) (find test ys) ≡ None → (find test ys ≡ None → list_any test ys ≡ false) → (b || list_any test ys) ≡ false
    at true e rest = absurd (none_some (sym e))
    at false e rest = rest e

-- where one passes, one is found
pub any_found : {X : Type 0} (test : X → Bool) (xs : List X) → list_any test xs ≡ true → (x : X) × (find test xs ≡ Some x)
any_found test xs h = at (find test xs) refl
  where
    at : (o : Option _) → find test xs ≡ o → (x : _) × (o ≡ Some x)
    at None e = absurd (true_not_false (list_any test xs) h (none_found test xs e))
    at (Some x) e = (x, refl)

-- A connection that ends.

apart_stay : (j : ℕ) (c : Connection) (ds : List Connection) → AllByRecursion (AreDisjoint c) ds
    → list_any (is_end j) (filter (λ d. not (d.number == c.number)) ds) ≡ list_any (is_end j) ds
apart_stay j c [] h = refl
apart_stay j c (d ∷ ds) h = at (d.number == c.number) (apart_stay j c ds h.1) (other_numbers d.number c.number
    (λ e. true_not_false (c.number == d.number) (subst (λ n. (n == d.number) ≡ true) e (same_number d.number)) h.0.numbers))
  where
    at : (b : Bool) → list_any (is_end j) (filter (λ d. not (d.number == c.number)) ds) ≡ list_any (is_end j) ds → b ≡ false
        → list_any (is_end j) (cond (not b) (d ∷ filter (λ d. not (d.number == c.number)) ds) (filter (λ d. not (d.number == c.number)) ds))
        ≡ (is_end j d || list_any (is_end j) ds)
    at true rest e = absurd (clash e)
    at false rest e = ap (λ b. is_end j d || b) rest

none_ends : (j : ℕ) (c : Connection) (ds : List Connection) → AllByRecursion (AreDisjoint c) ds → is_end j c ≡ true → list_any (is_end j) ds ≡ false
none_ends j c [] h e = refl
none_ends j c (d ∷ ds) h e = ap (λ b. b || list_any (is_end j) ds) (h.0.ends j e) ∙ none_ends j c ds h.1 e

ended_test : (p q r : Bool) → (p ≡ true → r ≡ false) → (p || (q && not r)) ≡ ((p || q) && not r)
ended_test true q true h = absurd (clash (h refl))
ended_test true q false h = refl
ended_test false q r h = refl

first_test : (p q : Bool) → (p ≡ true → q ≡ false) → q ≡ ((p || q) && not p)
first_test true q h = h refl
first_test false true h = refl
first_test false false h = refl

-- the others stand as before
pub any_ended : (i j : ℕ) (c : Connection) (ds : List Connection) → AreAllDisjoint ds → find (is_end i) ds ≡ Some c
    → list_any (is_end j) (filter (λ d. not (d.number == c.number)) ds) ≡ (list_any (is_end j) ds && not (is_end j c))
any_ended i j c [] h e = absurd (let none : ⊥ = cc in none)
any_ended i j c (d ∷ ds) h e = at (is_end i d) e (any_ended i j c ds h.1)
  where
    left : Bool → List Connection
    left b = cond (not b) (d ∷ filter (λ d. not (d.number == c.number)) ds) (filter (λ d. not (d.number == c.number)) ds)

    first : (d ≡ c) → list_any (is_end j) (left (d.number == c.number)) ≡ ((is_end j d || list_any (is_end j) ds) && not (is_end j c))
    first same = ap (λ b. list_any (is_end j) (left b)) (subst (λ (x : Connection). (d.number == x.number) ≡ true) same (same_number d.number))
        ∙ apart_stay j c ds (subst (λ x. AllByRecursion (AreDisjoint x) ds) same h.0)
        ∙ first_test (is_end j d) (list_any (is_end j) ds) (none_ends j d ds h.0)
        ∙ ap (λ x. (is_end j d || list_any (is_end j) ds) && not (is_end j x)) same

    Rest : Type 0
    Rest = find (is_end i) ds ≡ Some c → list_any (is_end j) (filter (λ d. not (d.number == c.number)) ds) ≡ (list_any (is_end j) ds && not (is_end j c))

    later : AreDisjoint d c → find (is_end i) ds ≡ Some c → Rest → list_any (is_end j) (left (d.number == c.number)) ≡ ((is_end j d || list_any (is_end j) ds) && not (is_end j c))
    later apart e rest = ap (λ b. list_any (is_end j) (left b)) apart.numbers
        ∙ ap (λ b. is_end j d || b) (rest e)
        ∙ ended_test (is_end j d) (list_any (is_end j) ds) (is_end j c) (apart.ends j)

    at : (b : Bool) → cond b (Some d) (find (is_end i) ds) ≡ Some c → Rest
        → list_any (is_end j) (left (d.number == c.number)) ≡ ((is_end j d || list_any (is_end j) ds) && not (is_end j c))
    at true e rest = first (some_is d c e)
    at false e rest = later (found_has (AreDisjoint d) (is_end i) ds c e h.0) e rest

pub disjoint_filter : (test : Connection → Bool) (ds : List Connection) → AreAllDisjoint ds → AreAllDisjoint (filter test ds)
disjoint_filter test [] h = tt
disjoint_filter test (d ∷ ds) h = at (test d) (disjoint_filter test ds h.1)
  where
    at : (b : Bool) → AreAllDisjoint (filter test ds) → AreAllDisjoint (cond b (d ∷ filter test ds) (filter test ds))
    at true rest = (all_filter (AreDisjoint d) test ds h.0, rest)
    at false rest = rest

-- A connection that begins.

new_apart : (d : Connection) (a b n j : ℕ) → is_end a d ≡ false → is_end b d ≡ false → is_end j d ≡ true → (a == j || b == j) ≡ false
new_apart d a b n j x y e = at (a == j) refl (b == j) refl
  where
    at : (p : Bool) → (a == j) ≡ p → (q : Bool) → (b == j) ≡ q → (p || q) ≡ false
    at true f q g = absurd (true_not_false (is_end a d) (subst (λ k. is_end k d ≡ true) (sym (equal_numbers a j f)) e) x)
    at false f true g = absurd (true_not_false (is_end b d) (subst (λ k. is_end k d ≡ true) (sym (equal_numbers b j g)) e) y)
    at false f false g = refl

pub split_or : (p q : Bool) → (p || q) ≡ false → (p ≡ false) × (q ≡ false)
split_or true q e = absurd (clash e)
split_or false q e = (refl, e)

-- its number is above the others, and its ends have none
pub disjoint_begun : (a b n : ℕ) (ds : List Connection) → AreAllDisjoint ds → AllByRecursion (λ d. d.number ≤ n) ds
    → list_any (is_end a) ds ≡ false → list_any (is_end b) ds ≡ false → AreAllDisjoint (ds ++ record { number = n + 1; first = a; second = b } ∷ [])
disjoint_begun a b n [] h low x y = (tt, tt)
disjoint_begun a b n (d ∷ ds) h low x y = let x' = split_or (is_end a d) (list_any (is_end a) ds) x in let y' = split_or (is_end b d) (list_any (is_end b) ds) y in (
  all_append (AreDisjoint d) ds (record { number = n + 1; first = a; second = b } ∷ []) h.0 (
    record {
      numbers = other_numbers d.number (n + 1) (λ e. let at_most = low.0 in omega (arith, e, at_most));
      ends = λ j e. new_apart d a b n j x'.0 y'.0 e;
    },
    tt,
  ),
  disjoint_begun a b n ds h.1 low.1 x'.1 y'.1,
)

pub numbered_begun : (a b n : ℕ) (ds : List Connection) → AllByRecursion (λ d. d.number ≤ n) ds
    → AllByRecursion (λ d. d.number ≤ n + 1) (ds ++ record { number = n + 1; first = a; second = b } ∷ [])
numbered_begun a b n ds low = all_append (λ d. d.number ≤ n + 1) ds (record { number = n + 1; first = a; second = b } ∷ [])
    (all_weaker (λ (d : Connection). d.number ≤ n) (λ d. d.number ≤ n + 1) (λ d h. omega (arith, h)) ds low) (omega arith, tt)

false_behind : (b : Bool) → (b || false) ≡ b
false_behind true = refl
false_behind false = refl

-- its ends are connected, and the others as before
pub any_begun : (a b n j : ℕ) (ds : List Connection)
    → list_any (is_end j) (ds ++ record { number = n + 1; first = a; second = b } ∷ []) ≡ (list_any (is_end j) ds || (a == j || b == j))
any_begun a b n j ds = any_append (is_end j) ds (record { number = n + 1; first = a; second = b } ∷ [])
    ∙ ap (λ x. list_any (is_end j) ds || x) (false_behind (a == j || b == j))
