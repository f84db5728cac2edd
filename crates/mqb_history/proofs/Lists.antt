-- Lists of which a member changed, and lists that were filtered.
use Rattle.mqb_exactly_once.specs.Words.{In}
use Rattle.std.proofs.Common.{inl, inr, refl, ap, sym, subst, ◌∙◌, arith}
use Rattle.std.proofs.lemmas.Bool.Decides.{nat_tests}
use Rattle.std.specs.List.{AllByRecursion}
use Rattle.std.specs.Option.{option_map_or}
use Rattle.std.specs.Prelude.{[], ◌&&◌, ◌+◌, ◌++◌, ◌-◌, ◌<◌, ◌==◌, ◌||◌, ◌∷◌, ◌≡◌, Bool, IfSome, List, None, Option, Some, cond, false, filter, length, map, not, option_map, slice_get, slice_set, suc, true, zero, ℕ}
use Rattle.mqb_model.specs.Lists.{with_changed}
use Rattle.mqb_queue.specs.Places.{numbered}

pub some_is : {X : Type 0} (x y : X) → Some x ≡ Some y → x ≡ y
some_is x y e = cc

pub none_some : {X : Type 0} {x : X} → None ≡ Some x → ⊥
none_some e = let none : ⊥ = cc in none

pub if_some : {X : Type 0} (P Q : X → Type 0) (o : Option X) → ((x : X) → P x → Q x) → IfSome o P → IfSome o Q
if_some P Q None f h = tt
if_some P Q (Some x) f h = f x h

-- a member where another was written
pub set_get : {X : Type 0} (Q : Option X → Type 0) (xs : List X) (i j : ℕ) (y : X) → Q (slice_get xs j) → (i ≡ j → i < length xs → Q (Some y))
    → Q (slice_get (slice_set xs i y) j)
set_get Q [] i j y old new = old
set_get Q (x ∷ xs) zero zero y old new = new refl (omega arith)
set_get Q (x ∷ xs) zero (suc j) y old new = old
set_get Q (x ∷ xs) (suc i) zero y old new = old
set_get Q (x ∷ xs) (suc i) (suc j) y old new = set_get Q xs i j y old (λ e lt. let within : suc i < suc (length xs) = omega arith in new (ap (λ n. suc n) e) within)

-- the member that was written
pub set_there : {X : Type 0} (xs : List X) (i : ℕ) (y : X) → i < length xs → slice_get (slice_set xs i y) i ≡ Some y
set_there [] i y lt = absurd (omega arith)
set_there (x ∷ xs) zero y lt = refl
set_there (x ∷ xs) (suc i) y lt = set_there xs i y (omega arith)

-- the others stay
pub set_apart : {X : Type 0} (xs : List X) (i j : ℕ) (y : X) → (i ≡ j → ⊥) → slice_get (slice_set xs i y) j ≡ slice_get xs j
set_apart xs i j y apart = set_get (λ o. o ≡ slice_get xs j) xs i j y refl (λ e lt. absurd (apart e))

pub set_length : {X : Type 0} (xs : List X) (k : ℕ) (y : X) → length (slice_set xs k y) ≡ length xs
set_length [] k y = refl
set_length (x ∷ xs) zero y = refl
set_length (x ∷ xs) (suc k) y = ap (λ n. suc n) (set_length xs k y)

pub get_within : {X : Type 0} (xs : List X) (i : ℕ) (x : X) → slice_get xs i ≡ Some x → i < length xs
get_within [] i x e = absurd (let none : ⊥ = cc in none)
get_within (y ∷ ys) zero x e = omega arith
get_within (y ∷ ys) (suc i) x e = let lt = get_within ys i x e in omega (arith, lt)

pub within_get : {X : Type 0} (xs : List X) (i : ℕ) → i < length xs → (x : X) × (slice_get xs i ≡ Some x)
within_get [] i lt = absurd (omega arith)
within_get (x ∷ xs) zero lt = (x, refl)
within_get (x ∷ xs) (suc i) lt = within_get xs i (omega arith)

-- a member of a list of which one was changed
pub changed_get : {X : Type 0} (Q : Option X → Type 0) (change : X → X) (xs : List X) (i j : ℕ) → Q (slice_get xs j)
    → (i ≡ j → (x : X) → slice_get xs j ≡ Some x → Q (Some (change x))) → Q (slice_get (with_changed change xs i) j)
changed_get Q change xs i j old new = at (slice_get xs i) refl
  where
    at : (o : Option _) → slice_get xs i ≡ o → Q (slice_get (option_map_or (λ x. slice_set xs i (change x)) o xs) j)
    at None e = old
    at (Some x) e = set_get Q xs i j (change x) old (λ same lt. new same x (ap (slice_get xs) (sym same) ∙ e))

pub changed_apart : {X : Type 0} (change : X → X) (xs : List X) (i j : ℕ) → (i ≡ j → ⊥) → slice_get (with_changed change xs i) j ≡ slice_get xs j
changed_apart change xs i j apart = changed_get (λ o. o ≡ slice_get xs j) change xs i j refl (λ e x there. absurd (apart e))

pub changed_there : {X : Type 0} (change : X → X) (xs : List X) (i : ℕ) → slice_get (with_changed change xs i) i ≡ option_map change (slice_get xs i)
changed_there change xs i = at (slice_get xs i) refl
  where
    at : (o : Option _) → slice_get xs i ≡ o → slice_get (option_map_or (λ x. slice_set xs i (change x)) o xs) i ≡ option_map change o
    at None e = e
    at (Some x) e = set_there xs i (change x) (get_within xs i x e)

pub changed_length : {X : Type 0} (change : X → X) (xs : List X) (k : ℕ) → length (with_changed change xs k) ≡ length xs
changed_length change xs k = at (slice_get xs k)
  where
    at : (o : Option _) → length (option_map_or (λ x. slice_set xs k (change x)) o xs) ≡ length xs
    at None = refl
    at (Some x) = set_length xs k (change x)

-- what a map does not see stays
pub set_same : {X Y : Type 0} (f : X → Y) (xs : List X) (k : ℕ) (x y : X) → slice_get xs k ≡ Some x → f y ≡ f x → map f (slice_set xs k y) ≡ map f xs
set_same f [] k x y g e = refl
set_same f (z ∷ zs) zero x y g e = ap (λ w. w ∷ map f zs) (e ∙ ap f (sym (some_is z x g)))
set_same f (z ∷ zs) (suc k) x y g e = ap (λ ws. f z ∷ ws) (set_same f zs k x y g e)

-- All members.

pub all_weaker : {X : Type 0} (P Q : X → Type 0) → ((x : X) → P x → Q x) → (xs : List X) → AllByRecursion P xs → AllByRecursion Q xs
all_weaker P Q weaker [] h = tt
all_weaker P Q weaker (x ∷ xs) h = (weaker x h.0, all_weaker P Q weaker xs h.1)

pub all_append : {X : Type 0} (P : X → Type 0) (xs ys : List X) → AllByRecursion P xs → AllByRecursion P ys → AllByRecursion P (xs ++ ys)
all_append P [] ys h g = g
all_append P (x ∷ xs) ys h g = (h.0, all_append P xs ys h.1 g)

pub all_filter : {X : Type 0} (P : X → Type 0) (test : X → Bool) (xs : List X) → AllByRecursion P xs → AllByRecursion P (filter test xs)
all_filter P test [] h = tt
all_filter P test (x ∷ xs) h = at (test x) (all_filter P test xs h.1)
  where
    at : (b : Bool) → AllByRecursion P (filter test xs) → AllByRecursion P (cond b (x ∷ filter test xs) (filter test xs))
    at true rest = (h.0, rest)
    at false rest = rest

-- Tests.

pub clash : true ≡ false → ⊥
clash e = let none : ⊥ = cc in none

pub true_not_false : (b : Bool) → b ≡ true → b ≡ false → ⊥
true_not_false b t f = clash (sym t ∙ f)

pub split_and : (a b : Bool) → (a && b) ≡ true → (a ≡ true) × (b ≡ true)
split_and true b e = (refl, e)
split_and false b e = absurd (clash (sym e))

pub join_and : (a b : Bool) → a ≡ true → b ≡ true → (a && b) ≡ true
join_and a b e f = ap (λ x. x && b) e ∙ f

pub not_true : (b : Bool) → not b ≡ true → b ≡ false
not_true true e = absurd (clash (sym e))
not_true false e = refl

pub neither : (a b : Bool) → not (a || b) ≡ true → (a ≡ false) × (b ≡ false)
neither true b e = absurd (clash (sym e))
neither false b e = (refl, not_true b e)

pub equal_numbers : (a b : ℕ) → (a == b) ≡ true → a ≡ b
equal_numbers a b e = grind (arith, nat_tests)

pub same_number : (a : ℕ) → (a == a) ≡ true
same_number a = grind (arith, nat_tests)

pub other_numbers : (a b : ℕ) → (a ≡ b → ⊥) → (a == b) ≡ false
other_numbers a b apart = at (a == b) refl
  where
    at : (t : Bool) → (a == b) ≡ t → t ≡ false
    at true e = absurd (apart (equal_numbers a b e))
    at false e = refl

pub apart_numbers : (a b : ℕ) → (a == b) ≡ false → a ≡ b → ⊥
apart_numbers a b e same = true_not_false (a == b) (subst (λ x. (a == x) ≡ true) same (same_number a)) e

-- Members by their numbers.

pub append_nothing : {X : Type 0} (xs : List X) → xs ++ [] ≡ xs
append_nothing [] = refl
append_nothing (x ∷ xs) = ap (λ rest. x ∷ rest) (append_nothing xs)

pub append_length : {X : Type 0} (xs ys : List X) → length (xs ++ ys) ≡ length xs + length ys
append_length [] ys = omega arith
append_length (x ∷ xs) ys = let e = append_length xs ys in omega (arith, e)

pub get_behind : {X : Type 0} (xs ys : List X) (k : ℕ) → slice_get (xs ++ ys) (length xs + k) ≡ slice_get ys k
get_behind [] ys k = ap (slice_get ys) (let e : 0 + k ≡ k = omega arith in e)
get_behind (x ∷ xs) ys k = ap (slice_get (x ∷ (xs ++ ys))) (let e : suc (length xs) + k ≡ suc (length xs + k) = omega arith in e) ∙ get_behind xs ys k

-- the packet of a number behind others
pub numbered_behind : {X : Type 0} (xs ys : List X) (k : ℕ) → numbered (xs ++ ys) (length xs + 1 + k) ≡ slice_get ys k
numbered_behind xs ys k = ap (λ b. cond b None (slice_get (xs ++ ys) (length xs + 1 + k - 1))) (other_numbers (length xs + 1 + k) 0 (λ e. omega arith))
    ∙ ap (slice_get (xs ++ ys)) (let e : length xs + 1 + k - 1 ≡ length xs + k = omega arith in e) ∙ get_behind xs ys k

pub get_in : {X : Type 0} (xs : List X) (k : ℕ) (x : X) → slice_get xs k ≡ Some x → In x xs
get_in [] k x e = absurd (none_some e)
get_in (y ∷ ys) zero x e = inl (some_is y x e)
get_in (y ∷ ys) (suc k) x e = inr (get_in ys k x e)
