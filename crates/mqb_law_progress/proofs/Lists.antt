-- When lists are not empty.
use Rattle.std.proofs.Common.{◌≡◌, ◌<◌, ◌⊎◌, inl, inr, Bool, true, false, cond, ◌||◌, ◌++◌, List, [], ◌∷◌, Some, refl, sym, ◌∙◌, arith}
use Rattle.std.specs.List.{list_any}
use Rattle.std.specs.Prelude.{filter, length, map, slice_get}
use Rattle.std.proofs.lemmas.Bool.{or_cases, true≢false}

pub some_left : {A : Type 0} (xs ys : List A) → 0 < length xs → 0 < length (xs ++ ys)
some_left [] ys some = absurd (omega (arith, some))
some_left (x ∷ xs) ys some = omega arith

pub some_right : {A : Type 0} (xs ys : List A) → 0 < length ys → 0 < length (xs ++ ys)
some_right [] ys some = some
some_right (x ∷ xs) ys some = omega arith

pub some_mapped : {A B : Type 0} (f : A → B) (xs : List A) → 0 < length xs → 0 < length (map f xs)
some_mapped f [] some = absurd (omega (arith, some))
some_mapped f (x ∷ xs) some = omega arith

pub some_kept : {A : Type 0} (f : A → Bool) (xs : List A) → list_any f xs ≡ true → 0 < length (filter f xs)
some_kept f [] any = absurd (true≢false (sym any))
some_kept f (x ∷ xs) any = at (f x) any (some_kept f xs)
  where
    at : (b : Bool) → (b || list_any f xs) ≡ true → (list_any f xs ≡ true → 0 < length (filter f xs)) → 0 < length (cond b (x ∷ filter f xs) (filter f xs))
    at true any rest = omega arith
    at false any rest = rest any

-- what any member passes of one test passes of a wider one
pub any_wider : {A : Type 0} (f g : A → Bool) → ((x : A) → f x ≡ true → g x ≡ true) → (xs : List A) → list_any f xs ≡ true → list_any g xs ≡ true
any_wider f g wider [] any = absurd (true≢false (sym any))
any_wider {A} f g wider (x ∷ xs) any = at (or_cases (f x) (list_any f xs) any) (any_wider f g wider xs)
  where
    at : (f x ≡ true) ⊎ (list_any f xs ≡ true) → (list_any f xs ≡ true → list_any g xs ≡ true) → list_any g (x ∷ xs) ≡ true
    at (inl is) rest = rw (wider x is) refl
    at (inr behind) rest = left (g x) (rest behind)
      where
        left : (b : Bool) → list_any g xs ≡ true → (b || list_any g xs) ≡ true
        left true h = refl
        left false h = h

pub none_narrower : {A : Type 0} (f g : A → Bool) → ((x : A) → f x ≡ true → g x ≡ true) → (xs : List A) → list_any g xs ≡ false
    → list_any f xs ≡ false
none_narrower f g wider xs none = at (list_any f xs) refl
  where
    at : (b : Bool) → list_any f xs ≡ b → b ≡ false
    at true is = absurd (true≢false (sym (any_wider f g wider xs is) ∙ none))
    at false is = refl

pub none_behind : {A : Type 0} (f : A → Bool) (xs : List A) (x : A) → list_any f xs ≡ false → f x ≡ false → list_any f (xs ++ x ∷ []) ≡ false
none_behind f [] x none is = rw is refl
none_behind f (y ∷ xs) x none is = at (f y) none (none_behind f xs x)
  where
    at : (b : Bool) → (b || list_any f xs) ≡ false → (list_any f xs ≡ false → f x ≡ false → list_any f (xs ++ x ∷ []) ≡ false)
        → (b || list_any f (xs ++ x ∷ [])) ≡ false
    at true none rest = absurd (true≢false none)
    at false none rest = rest none is

pub member_at : {A : Type 0} (xs : List A) (x : A) (ys : List A) → slice_get (xs ++ x ∷ ys) (length xs) ≡ Some x
member_at [] x ys = refl
member_at (y ∷ xs) x ys = member_at xs x ys
