-- Lists whose members left or changed, and the first member that passes.
use Rattle.std.proofs.Common.{refl, ap, sym, subst, ◌∙◌, length, arith, one-add}
use Rattle.std.proofs.lemmas.Bool.Decides.{nat_tests}
use Rattle.std.proofs.lemmas.List.Elements.{recursion_from_All}
use Rattle.std.specs.List.{AllByRecursion, prefix_len}
use Rattle.std.specs.Option.{option_map_or}
use Rattle.std.specs.Prelude.{◌+◌, ◌++◌, ◌<◌, ◌∷◌, ◌≡◌, [], AllPairs, Bool, IfSome, List, None, Option, Some, cond, false, filter, nat_lt, not, option_and_then, option_map, position, remove, slice_get, slice_set, suc, true, zero, ℕ}
use Rattle.mqb_model.specs.Lists.{first_where, with_changed, with_first_changed, without_first}

pub some_is : {X : Type 0} (x y : X) → Some x ≡ Some y → x ≡ y
some_is x y e = cc

pub append_nothing : {X : Type 0} (xs : List X) → xs ++ [] ≡ xs
append_nothing [] = refl
append_nothing (x ∷ xs) = ap (λ ys. x ∷ ys) (append_nothing xs)

-- Parts of lists.

pub all_left : {X : Type 0} (P : X → Type 0) (xs ys : List X) → AllByRecursion P (xs ++ ys) → AllByRecursion P xs
all_left P [] ys h = tt
all_left P (x ∷ xs) ys h = (h.0, all_left P xs ys h.1)

pub all_right : {X : Type 0} (P : X → Type 0) (xs ys : List X) → AllByRecursion P (xs ++ ys) → AllByRecursion P ys
all_right P [] ys h = h
all_right P (x ∷ xs) ys h = all_right P xs ys h.1

pub all_append : {X : Type 0} (P : X → Type 0) (xs ys : List X) → AllByRecursion P xs → AllByRecursion P ys → AllByRecursion P (xs ++ ys)
all_append P [] ys f g = g
all_append P (x ∷ xs) ys f g = (f.0, all_append P xs ys f.1 g)

pub all_weaker : {X : Type 0} (P Q : X → Type 0) → ((x : X) → P x → Q x) → (xs : List X) → AllByRecursion P xs → AllByRecursion Q xs
all_weaker P Q f [] h = tt
all_weaker P Q f (x ∷ xs) h = (f x h.0, all_weaker P Q f xs h.1)

-- each two members, the earlier one first
abbrev pub PairsByRecursion : {X : Type 0} → (X → X → Type 0) → List X → Type 0
PairsByRecursion R [] = Unit {0}
PairsByRecursion R (x ∷ xs) = AllByRecursion (R x) xs × PairsByRecursion R xs

pub pairs_of : {X : Type 0} (R : X → X → Type 0) (xs : List X) → AllPairs R xs → PairsByRecursion R xs
pairs_of R [] h = tt
pairs_of R (x ∷ xs) h = (
  recursion_from_All (R x) xs (λ k d lt. let first : 0 < suc k = omega arith in let within : suc k < length (x ∷ xs) = omega arith in h 0 (suc k) d first within),
  pairs_of R xs (λ i j d less lt. let rises : suc i < suc j = omega arith in let within : suc j < length (x ∷ xs) = omega arith in h (suc i) (suc j) d rises within),
)

-- Lists that lost members.

-- the first list has members of the second, in its order
pub data Fewer {X : Type 0} : List X → List X → Type 0 where
  none : Fewer [] []
  keep : (x : X) {xs ys : List X} → Fewer xs ys → Fewer (x ∷ xs) (x ∷ ys)
  skip : (y : X) {xs ys : List X} → Fewer xs ys → Fewer xs (y ∷ ys)

pub fewer_all : {X : Type 0} (P : X → Type 0) {xs ys : List X} → Fewer xs ys → AllByRecursion P ys → AllByRecursion P xs
fewer_all P none h = tt
fewer_all P (keep x f) h = (h.0, fewer_all P f h.1)
fewer_all P (skip y f) h = fewer_all P f h.1

pub fewer_pairs : {X : Type 0} (R : X → X → Type 0) {xs ys : List X} → Fewer xs ys → PairsByRecursion R ys → PairsByRecursion R xs
fewer_pairs R none h = tt
fewer_pairs R (keep x f) h = (fewer_all (R x) f h.0, fewer_pairs R f h.1)
fewer_pairs R (skip y f) h = fewer_pairs R f h.1

same : {X : Type 0} (xs : List X) → Fewer xs xs
same [] = none
same (x ∷ xs) = keep x (same xs)

pub fewer_filter : {X : Type 0} (p : X → Bool) (xs : List X) → Fewer (filter p xs) xs
fewer_filter p [] = none
fewer_filter p (x ∷ xs) = at (p x) (fewer_filter p xs)
  where
    at : (b : Bool) → Fewer (filter p xs) xs → Fewer (cond b (x ∷ filter p xs) (filter p xs)) (x ∷ xs)
    at true f = keep x f
    at false f = skip x f

fewer_remove : {X : Type 0} (xs : List X) (k : ℕ) → Fewer (remove xs k) xs
fewer_remove [] zero = none
fewer_remove [] (suc k) = none
fewer_remove (x ∷ xs) zero = skip x (same xs)
fewer_remove (x ∷ xs) (suc k) = keep x (fewer_remove xs k)

pub fewer_without : {X : Type 0} (p : X → Bool) (xs : List X) → Fewer (without_first p xs) xs
fewer_without p xs = at (position p xs)
  where
    at : (o : Option ℕ) → Fewer (option_map_or (remove xs) o xs) xs
    at None = same xs
    at (Some k) = fewer_remove xs k

-- Members that changed.

pub get_holds : {X : Type 0} (Q : X → Type 0) (xs : List X) (k : ℕ) → AllByRecursion Q xs → IfSome (slice_get xs k) Q
get_holds Q [] k all = tt
get_holds Q (x ∷ xs) zero all = all.0
get_holds Q (x ∷ xs) (suc k) all = get_holds Q xs k all.1

set_holds : {X : Type 0} (Q : X → Type 0) (xs : List X) (i : ℕ) (y : X) → Q y → AllByRecursion Q xs → AllByRecursion Q (slice_set xs i y)
set_holds Q [] i y h all = tt
set_holds Q (x ∷ xs) zero y h all = (h, all.1)
set_holds Q (x ∷ xs) (suc i) y h all = (all.0, set_holds Q xs i y h all.1)

pub changed_holds : {X : Type 0} (Q : X → Type 0) (change : X → X) (xs : List X) (k : ℕ) → ((x : X) → Q x → Q (change x)) → AllByRecursion Q xs → AllByRecursion Q (with_changed change xs k)
changed_holds Q change xs k keeps all = at (slice_get xs k) (get_holds Q xs k all)
  where
    at : (o : Option _) → IfSome o Q → AllByRecursion Q (option_map_or (λ x. slice_set xs k (change x)) o xs)
    at None h = all
    at (Some x) h = set_holds Q xs k (change x) (keeps x h) all

pub first_holds : {X : Type 0} (Q : X → Type 0) (change : X → X) (passes : X → Bool) (xs : List X) → ((x : X) → Q x → Q (change x)) → AllByRecursion Q xs → AllByRecursion Q (with_first_changed change passes xs)
first_holds Q change passes xs keeps all = at (position passes xs)
  where
    at : (o : Option ℕ) → AllByRecursion Q (option_map_or (with_changed change xs) o xs)
    at None = all
    at (Some k) = changed_holds Q change xs k keeps all

-- The first member that passes, by the members one after another.

first : (n : ℕ) → nat_lt 0 (suc n) ≡ true
first n = grind (arith, nat_tests)

more : (k n : ℕ) → nat_lt (1 + k) (suc n) ≡ nat_lt k n
more k n = grind (arith, nat_tests)

-- its index is 0, or one more than that among the others
pub position_cons : {X : Type 0} (p : X → Bool) (x : X) (xs : List X) → position p (x ∷ xs) ≡ cond (p x) (Some 0) (option_map (λ k. suc k) (position p xs))
position_cons p x xs = at (p x)
  where
    n : ℕ
    n = prefix_len (λ x. not (p x)) xs

    rest : (b : Bool) → cond b (Some (1 + n)) None ≡ option_map (λ k. suc k) (cond b (Some n) None)
    rest true = ap (λ k. Some k) (one-add n)
    rest false = refl

    at : (b : Bool) → cond (nat_lt (cond (not b) (1 + n) 0) (suc (length xs))) (Some (cond (not b) (1 + n) 0)) None
        ≡ cond b (Some 0) (option_map (λ k. suc k) (cond (nat_lt n (length xs)) (Some n) None))
    at true = ap (λ c. cond c (Some 0) None) (first (length xs))
    at false = ap (λ c. cond c (Some (1 + n)) None) (more n (length xs)) ∙ rest (nat_lt n (length xs))

pub first_cons : {X : Type 0} (p : X → Bool) (x : X) (xs : List X) → first_where p (x ∷ xs) ≡ cond (p x) (Some x) (first_where p xs)
first_cons p x xs = ap (λ o. option_and_then (slice_get (x ∷ xs)) o) (position_cons p x xs) ∙ at (p x)
  where
    shifted : (o : Option ℕ) → option_and_then (slice_get (x ∷ xs)) (option_map (λ k. suc k) o) ≡ option_and_then (slice_get xs) o
    shifted None = refl
    shifted (Some k) = refl

    at : (b : Bool) → option_and_then (slice_get (x ∷ xs)) (cond b (Some 0) (option_map (λ k. suc k) (position p xs))) ≡ cond b (Some x) (first_where p xs)
    at true = refl
    at false = shifted (position p xs)

pub first_passes : {X : Type 0} (p : X → Bool) (xs : List X) → IfSome (first_where p xs) (λ x. p x ≡ true)
first_passes p [] = tt
first_passes p (x ∷ xs) = subst (λ o. IfSome o (λ y. p y ≡ true)) (sym (first_cons p x xs)) (at (p x) refl (first_passes p xs))
  where
    at : (b : Bool) → p x ≡ b → IfSome (first_where p xs) (λ y. p y ≡ true) → IfSome (cond b (Some x) (first_where p xs)) (λ y. p y ≡ true)
    at true e rest = e
    at false e rest = rest
