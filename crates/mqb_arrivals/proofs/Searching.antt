-- A search from the front on: no member before the one at an index passes.
use Rattle.std.proofs.Common.{refl, ap, sym, ◌∙◌, length, arith, one-add}
use Rattle.std.proofs.Math.Seq.{take-length}
use Rattle.std.proofs.lemmas.Bool.Decides.{nat_tests}
use Rattle.std.specs.List.{list_any, prefix_len}
use Rattle.std.specs.Prelude.{◌+◌, ◌∷◌, ◌≡◌, ◌||◌, [], Bool, List, None, Option, Some, cond, false, is_some, nat_lt, not, option_map, position, slice_get, suc, take, true, zero, ℕ}

first : (n : ℕ) → nat_lt 0 (suc n) ≡ true
first n = grind (arith, nat_tests)

more : (k n : ℕ) → nat_lt (1 + k) (suc n) ≡ nat_lt k n
more k n = grind (arith, nat_tests)

position_cons : {X : Type 0} (p : X → Bool) (x : X) (xs : List X) → position p (x ∷ xs) ≡ cond (p x) (Some 0) (option_map (λ k. suc k) (position p xs))
position_cons p x xs = at (p x)
  where
    n : ℕ
    n = prefix_len (λ x. not (p x)) xs

    rest : (b : Bool) → cond b (Some (1 + n)) None ≡ option_map (λ k. suc k) (cond b (Some n) None)
    rest true = ap (λ k. Some k) (one-add n)
    rest false = refl

    at : (b : Bool) → cond (nat_lt (cond (not b) (1 + n) 0) (suc (length xs))) (Some (cond (not b) (1 + n) 0)) None
        ≡ cond b (Some 0) (option_map (λ k. suc k) (cond (nat_lt n (length xs)) (Some n) None))
    at true = ap (λ c. cond c (Some 0) None) (first (length xs))
    at false = ap (λ c. cond c (Some (1 + n)) None) (more n (length xs)) ∙ rest (nat_lt n (length xs))

-- some member passes where there is a first one that does
pub any_position : {X : Type 0} (p : X → Bool) (xs : List X) → list_any p xs ≡ is_some (position p xs)
any_position p [] = refl
any_position p (x ∷ xs) = ap (λ b. p x || b) (any_position p xs) ∙ (at (p x) (position p xs) ∙ sym (ap is_some (position_cons p x xs)))
  where
    at : (b : Bool) (o : Option ℕ) → (b || is_some o) ≡ is_some (cond b (Some 0) (option_map (λ k. suc k) o))
    at true o = refl
    at false None = refl
    at false (Some k) = refl

some_eq : {X : Type 0} (x y : X) → Some x ≡ Some y → x ≡ y
some_eq x y h = cc

-- none of the first members does, nor the next one
pub none_more : {X : Type 0} (p : X → Bool) (xs : List X) (k : ℕ) (x : X) → list_any p (take k xs) ≡ false → slice_get xs k ≡ Some x → p x ≡ false
    → list_any p (take (k + 1) xs) ≡ false
none_more p [] k x none e f = absurd (let no : ⊥ = cc in no)
none_more p (y ∷ ys) zero x none e f = at (p y) (ap p (some_eq y x e) ∙ f)
  where
    at : (b : Bool) → b ≡ false → (b || false) ≡ false
    at b h = ap (λ b. b || false) h
none_more p (y ∷ ys) (suc k) x none e f = ap (λ n. list_any p (take n (y ∷ ys))) next ∙ at (p y) (λ h. none_more p ys k x h e f) none
  where
    next : suc k + 1 ≡ suc (k + 1)
    next = omega arith

    at : (b : Bool) → (list_any p (take k ys) ≡ false → list_any p (take (k + 1) ys) ≡ false) → (b || list_any p (take k ys)) ≡ false
        → (b || list_any p (take (k + 1) ys)) ≡ false
    at true rest h = h
    at false rest h = rest h

-- the first one that does
pub first_at : {X : Type 0} (p : X → Bool) (xs : List X) (k : ℕ) (x : X) → list_any p (take k xs) ≡ false → slice_get xs k ≡ Some x → p x ≡ true
    → position p xs ≡ Some k
first_at p [] k x none e h = absurd (let no : ⊥ = cc in no)
first_at p (y ∷ ys) zero x none e h = position_cons p y ys ∙ ap (λ b. cond b (Some 0) (option_map (λ k. suc k) (position p ys))) (ap p (some_eq y x e) ∙ h)
first_at p (y ∷ ys) (suc k) x none e h = position_cons p y ys ∙ at (p y) (λ g. first_at p ys k x g e h) none
  where
    at : (b : Bool) → (list_any p (take k ys) ≡ false → position p ys ≡ Some k) → (b || list_any p (take k ys)) ≡ false
        → cond b (Some 0) (option_map (λ k. suc k) (position p ys)) ≡ Some (suc k)
    at true rest none = absurd (let no : ⊥ = cc in no)
    at false rest none = ap (option_map (λ k. suc k)) (rest none)

pub any_there : {X : Type 0} (p : X → Bool) (xs : List X) (k : ℕ) (x : X) → slice_get xs k ≡ Some x → p x ≡ true → list_any p xs ≡ true
any_there p [] k x e h = absurd (let no : ⊥ = cc in no)
any_there p (y ∷ ys) zero x e h = ap (λ b. b || list_any p ys) (ap p (some_eq y x e) ∙ h)
any_there p (y ∷ ys) (suc k) x e h = or_right (p y) (list_any p ys) (any_there p ys k x e h)
  where
    or_right : (a b : Bool) → b ≡ true → (a || b) ≡ true
    or_right true b e = refl
    or_right false b e = e

-- no member passes
pub none_at : {X : Type 0} (p : X → Bool) (xs : List X) → list_any p xs ≡ false → position p xs ≡ None
none_at p xs h = by (position p xs) (sym (any_position p xs) ∙ h)
  where
    by : (o : Option ℕ) → is_some o ≡ false → o ≡ None
    by None h = refl
    by (Some k) h = absurd (let no : ⊥ = cc in no)

-- all members are the first ones
pub none_whole : {X : Type 0} (p : X → Bool) (xs : List X) (k : ℕ) → length xs ≡ k → list_any p (take k xs) ≡ false → list_any p xs ≡ false
none_whole p xs k e h = sym (ap (list_any p) (ap (λ n. take n xs) (sym e) ∙ take-length xs)) ∙ h
