-- Numbers, GUIDs, and lists of which a member is another one now.
use Rattle.std.proofs.Common.{◌≡◌, ℕ, zero, suc, ◌+◌, ◌<◌, ◌==◌, ◌||◌, Bool, true, false, cond, not, List, [], ◌∷◌, ◌++◌, Option, Some, None, refl, ap, subst, ◌∙◌, arith}
use Rattle.std.proofs.lemmas.Bool.{lt-ltb}
use Rattle.std.proofs.lemmas.Bool.Decides.{nat_tests}
use Rattle.std.specs.Cmp.Lexicographic.{bytes_decides}
use Rattle.std.specs.List.{list_any, prefix_len}
use Rattle.std.specs.Option.{option_map_or}
use Rattle.std.specs.Prelude.{find, length, option_map, position, slice_get, slice_set}
use Rattle.mqb_base.specs.Same.{same_guid}
use Rattle.mqb_base.specs.declared.ids.Guid.{Guid}
use Rattle.mqb_model.specs.Lists.{with_changed}
use Rattle.mqb_queue.specs.Places.{numbered}

-- Numbers and GUIDs.

pub same_number : (a : ℕ) → (a == a) ≡ true
same_number a = grind (arith, nat_tests)

pub equal_numbers : (a b : ℕ) → (a == b) ≡ true → a ≡ b
equal_numbers a b e = grind (arith, nat_tests)

pub apart_numbers : (a b : ℕ) → (a == b) ≡ false → a ≡ b → ⊥
apart_numbers a b e same = let no : ⊥ = grind (arith, nat_tests, e, same) in no

pub other_numbers : (a b : ℕ) → (a ≡ b → ⊥) → (a == b) ≡ false
other_numbers a b apart = at (a == b) refl
  where
    at : (t : Bool) → (a == b) ≡ t → (a == b) ≡ false
    at true e = absurd (apart (equal_numbers a b e))
    at false e = e

pub same_guid_is : (a b : Guid) → same_guid a b ≡ true → a ≡ b
same_guid_is a b h = ap (λ (x : List ℕ). record { 0 = x }) ((bytes_decides a.0 b.0).0 h)

pub same_guid_refl : (a : Guid) → same_guid a a ≡ true
same_guid_refl a = (bytes_decides a.0 a.0).1 refl

-- A member that was written, and the others.

pub set_there : {X : Type 0} (xs : List X) (i : ℕ) (y : X) → i < length xs → slice_get (slice_set xs i y) i ≡ Some y
set_there [] i y lt = absurd (omega arith)
set_there (x ∷ xs) zero y lt = refl
set_there (x ∷ xs) (suc i) y lt = set_there xs i y (omega arith)

pub set_apart : {X : Type 0} (xs : List X) (i j : ℕ) (y : X) → (i ≡ j → ⊥) → slice_get (slice_set xs i y) j ≡ slice_get xs j
set_apart [] i j y apart = refl
set_apart (x ∷ xs) zero zero y apart = absurd (apart refl)
set_apart (x ∷ xs) zero (suc j) y apart = refl
set_apart (x ∷ xs) (suc i) zero y apart = refl
set_apart (x ∷ xs) (suc i) (suc j) y apart = set_apart xs i j y (λ e. apart (ap (λ n. suc n) e))

pub set_length : {X : Type 0} (xs : List X) (k : ℕ) (y : X) → length (slice_set xs k y) ≡ length xs
set_length [] k y = refl
set_length (x ∷ xs) zero y = refl
set_length (x ∷ xs) (suc k) y = ap (λ n. suc n) (set_length xs k y)

pub get_within : {X : Type 0} (xs : List X) (i : ℕ) (x : X) → slice_get xs i ≡ Some x → i < length xs
get_within [] i x e = absurd (let none : ⊥ = cc in none)
get_within (y ∷ ys) zero x e = omega arith
get_within (y ∷ ys) (suc i) x e = let lt = get_within ys i x e in omega (arith, lt)

pub within_get : {X : Type 0} (xs : List X) (i : ℕ) → i < length xs → (x : X) × (slice_get xs i ≡ Some x)
within_get [] i lt = absurd (omega arith)
within_get (x ∷ xs) zero lt = (x, refl)
within_get (x ∷ xs) (suc i) lt = within_get xs i (omega arith)

pub changed_apart : {X : Type 0} (change : X → X) (xs : List X) (i j : ℕ) → (i ≡ j → ⊥) → slice_get (with_changed change xs i) j ≡ slice_get xs j
changed_apart change xs i j apart = at (slice_get xs i)
  where
    at : (o : Option _) → slice_get (option_map_or (λ x. slice_set xs i (change x)) o xs) j ≡ slice_get xs j
    at None = refl
    at (Some x) = set_apart xs i j (change x) apart

pub changed_there : {X : Type 0} (change : X → X) (xs : List X) (i : ℕ) → slice_get (with_changed change xs i) i ≡ option_map change (slice_get xs i)
changed_there change xs i = at (slice_get xs i) refl
  where
    at : (o : Option _) → slice_get xs i ≡ o → slice_get (option_map_or (λ x. slice_set xs i (change x)) o xs) i ≡ option_map change o
    at None e = e
    at (Some x) e = set_there xs i (change x) (get_within xs i x e)

pub changed_length : {X : Type 0} (change : X → X) (xs : List X) (k : ℕ) → length (with_changed change xs k) ≡ length xs
changed_length change xs k = at (slice_get xs k)
  where
    at : (o : Option _) → length (option_map_or (λ x. slice_set xs k (change x)) o xs) ≡ length xs
    at None = refl
    at (Some x) = set_length xs k (change x)

-- The last member.

last_there : {X : Type 0} (xs : List X) (x : X) → slice_get (xs ++ x ∷ []) (length xs) ≡ Some x
last_there [] x = refl
last_there (y ∷ ys) x = last_there ys x

pub last_numbered : {X : Type 0} (xs : List X) (x : X) → numbered (xs ++ x ∷ []) (length xs + 1) ≡ Some x
last_numbered xs x = let some : (length xs + 1 == 0) ≡ false = grind (arith, nat_tests) in
    rw some (ap (slice_get (xs ++ x ∷ [])) (omega arith) ∙ last_there xs x)

pub found_last : {X : Type 0} (f : X → Bool) (xs : List X) (x : X) → list_any f xs ≡ false → f x ≡ true → find f (xs ++ x ∷ []) ≡ Some x
found_last f [] x none is = rw is refl
found_last f (y ∷ ys) x none is = at (f y) none (found_last f ys x)
  where
    at : (b : Bool) → (b || list_any f ys) ≡ false → (list_any f ys ≡ false → f x ≡ true → find f (ys ++ x ∷ []) ≡ Some x) → cond b (Some y) (find f (ys ++ x ∷ [])) ≡ Some x
    at true none rest = absurd (let no : ⊥ = cc in no)
    at false none rest = rest none is

-- The first member that passes.

pub any_found : {X : Type 0} (f : X → Bool) (xs : List X) (x : X) → find f xs ≡ Some x → list_any f xs ≡ true
any_found f [] x e = absurd (let no : ⊥ = cc in no)
any_found f (y ∷ ys) x e = at (f y) e (any_found f ys x)
  where
    at : (b : Bool) → cond b (Some y) (find f ys) ≡ Some x → (find f ys ≡ Some x → list_any f ys ≡ true) → (b || list_any f ys) ≡ true
    at true e rest = refl
    at false e rest = rest e

-- its place
pub record Found {X : Type 0} (p : X → Bool) (xs : List X) : Type 0 where
  pub place : ℕ
  pub found : position p xs ≡ Some place
  pub member : X
  pub there : slice_get xs place ≡ Some member
  pub passes : p member ≡ true

record FoundAt {X : Type 0} (p : X → Bool) (xs : List X) (place : ℕ) : Type 0 where
  inside : place < length xs
  member : X
  there : slice_get xs place ≡ Some member
  passes : p member ≡ true

found_at : {X : Type 0} (p : X → Bool) (xs : List X) → list_any p xs ≡ true → FoundAt p xs (prefix_len (λ x. not (p x)) xs)
found_at p [] any = absurd (let no : ⊥ = cc in no)
found_at p (x ∷ xs) any = at (p x) refl any (found_at p xs)
  where
    at : (b : Bool) → p x ≡ b → (b || list_any p xs) ≡ true → (list_any p xs ≡ true → FoundAt p xs (prefix_len (λ y. not (p y)) xs))
        → FoundAt p (x ∷ xs) (cond (not b) (1 + prefix_len (λ y. not (p y)) xs) 0)
    at true is any rest = record { inside = omega arith; member = x; there = refl; passes = is }
    at false is any rest = let f = rest any in let within = f.inside in record {
      inside = omega (arith, within);
      member = f.member;
      there = subst (λ k. slice_get (x ∷ xs) k ≡ Some f.member)
          (let e : suc (prefix_len (λ y. not (p y)) xs) ≡ 1 + prefix_len (λ y. not (p y)) xs = omega arith in e) f.there;
      passes = f.passes;
    }

pub found_of : {X : Type 0} (p : X → Bool) (xs : List X) → list_any p xs ≡ true → Found p xs
found_of p xs any = let f = found_at p xs any in let inside = lt-ltb (prefix_len (λ x. not (p x)) xs) (length xs) f.inside in record {
  place = prefix_len (λ x. not (p x)) xs;
  found = rw inside refl;
  member = f.member;
  there = f.there;
  passes = f.passes;
}
