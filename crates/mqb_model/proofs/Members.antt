-- Lists that lost members, whose members changed, or that gained one.
use Rattle.std.proofs.Common.{refl, ap, sym, subst, ◌∙◌, length, arith}
use Rattle.std.proofs.lemmas.List.Elements.{All-from_recursion, recursion_from_All}
use Rattle.std.proofs.lemmas.Bool.Decides.{nat_tests}
use Rattle.std.proofs.lemmas.List.Kept.{AllPairs-cons}
use Rattle.std.proofs.lemmas.List.Quantifiers.{position-Some}
use Rattle.std.proofs.lemmas.Option.{get_or_from_slice_get}
use Rattle.std.specs.List.{AllByRecursion, flat_map, last_or, prefix_len}
use Rattle.std.specs.Option.{option_map_or}
use Rattle.std.specs.Prelude.{◌&&◌, ◌+◌, ◌++◌, ◌<◌, ◌∷◌, ◌≡◌, [], AllPairs, Bool, IfSome, List, None, Option, Some, cond, false, filter, map, nat_lt, not, option_and_then, position, remove, slice_get, slice_set, suc, true, zero, ℕ}
use Rattle.mqb_model.specs.Lists.{first_where, with_changed, with_first_changed, without_first}

-- each two members, the earlier one first
abbrev pub PairsByRecursion : {X : Type 0} → (X → X → Type 0) → List X → Type 0
PairsByRecursion R [] = Unit {0}
PairsByRecursion R (x ∷ xs) = AllByRecursion (R x) xs × PairsByRecursion R xs

pub pairs_of : {X : Type 0} (R : X → X → Type 0) (xs : List X) → AllPairs R xs → PairsByRecursion R xs
pairs_of R [] h = tt
pairs_of R (x ∷ xs) h = (
  recursion_from_All (R x) xs (λ k d lt. let first : 0 < suc k = omega arith in let within : suc k < length (x ∷ xs) = omega arith in h 0 (suc k) d first within),
  pairs_of R xs (λ i j d less lt. let rises : suc i < suc j = omega arith in let within : suc j < length (x ∷ xs) = omega arith in h (suc i) (suc j) d rises within),
)

pub all_pairs : {X : Type 0} (R : X → X → Type 0) (xs : List X) → PairsByRecursion R xs → AllPairs R xs
all_pairs R [] h = λ i j d less lt. absurd (omega arith)
all_pairs R (x ∷ xs) h = AllPairs-cons R x xs (All-from_recursion (R x) xs h.0) (all_pairs R xs h.1)

pub some_is : {X : Type 0} (x y : X) → Some x ≡ Some y → x ≡ y
some_is x y e = cc

-- Lists that lost members.

-- the first list has members of the second, in its order
pub data Fewer {X : Type 0} : List X → List X → Type 0 where
  none : Fewer [] []
  keep : (x : X) {xs ys : List X} → Fewer xs ys → Fewer (x ∷ xs) (x ∷ ys)
  skip : (y : X) {xs ys : List X} → Fewer xs ys → Fewer xs (y ∷ ys)

pub fewer_all : {X : Type 0} (P : X → Type 0) {xs ys : List X} → Fewer xs ys → AllByRecursion P ys → AllByRecursion P xs
fewer_all P none h = tt
fewer_all P (keep x f) h = (h.0, fewer_all P f h.1)
fewer_all P (skip y f) h = fewer_all P f h.1

pub fewer_pairs : {X : Type 0} (R : X → X → Type 0) {xs ys : List X} → Fewer xs ys → PairsByRecursion R ys → PairsByRecursion R xs
fewer_pairs R none h = tt
fewer_pairs R (keep x f) h = (fewer_all (R x) f h.0, fewer_pairs R f h.1)
fewer_pairs R (skip y f) h = fewer_pairs R f h.1

pub same : {X : Type 0} (xs : List X) → Fewer xs xs
same [] = none
same (x ∷ xs) = keep x (same xs)

pub fewer_append : {X : Type 0} {ws xs ys zs : List X} → Fewer ws xs → Fewer ys zs → Fewer (ws ++ ys) (xs ++ zs)
fewer_append none g = g
fewer_append (keep x f) g = keep x (fewer_append f g)
fewer_append (skip y f) g = skip y (fewer_append f g)

pub fewer_map : {X Y : Type 0} (f : X → Y) {xs ys : List X} → Fewer xs ys → Fewer (map f xs) (map f ys)
fewer_map f none = none
fewer_map f (keep x g) = keep (f x) (fewer_map f g)
fewer_map f (skip y g) = skip (f y) (fewer_map f g)

pub fewer_filter : {X : Type 0} (p : X → Bool) (xs : List X) → Fewer (filter p xs) xs
fewer_filter p [] = none
fewer_filter p (x ∷ xs) = at (p x) (fewer_filter p xs)
  where
    at : (b : Bool) → Fewer (filter p xs) xs → Fewer (cond b (x ∷ filter p xs) (filter p xs)) (x ∷ xs)
    at true f = keep x f
    at false f = skip x f

pub fewer_remove : {X : Type 0} (xs : List X) (k : ℕ) → Fewer (remove xs k) xs
fewer_remove [] zero = none
fewer_remove [] (suc k) = none
fewer_remove (x ∷ xs) zero = skip x (same xs)
fewer_remove (x ∷ xs) (suc k) = keep x (fewer_remove xs k)

pub fewer_without : {X : Type 0} (p : X → Bool) (xs : List X) → Fewer (without_first p xs) xs
fewer_without p xs = at (position p xs)
  where
    at : (o : Option ℕ) → Fewer (option_map_or (remove xs) o xs) xs
    at None = same xs
    at (Some k) = fewer_remove xs k

-- Lists of which a member changed.

pub set_all : {X : Type 0} (P : X → Type 0) (xs : List X) (k : ℕ) (x y : X) → slice_get xs k ≡ Some x → (P x → P y) → AllByRecursion P xs
    → AllByRecursion P (slice_set xs k y)
set_all P [] k x y e f h = tt
set_all P (z ∷ zs) zero x y e f h = (f (subst P (some_is z x e) h.0), h.1)
set_all P (z ∷ zs) (suc k) x y e f h = (h.0, set_all P zs k x y e f h.1)

-- whatever the member was
pub set_one : {X : Type 0} (P : X → Type 0) (xs : List X) (k : ℕ) (y : X) → P y → AllByRecursion P xs → AllByRecursion P (slice_set xs k y)
set_one P [] k y p h = tt
set_one P (z ∷ zs) zero y p h = (p, h.1)
set_one P (z ∷ zs) (suc k) y p h = (h.0, set_one P zs k y p h.1)

pub set_pairs : {X : Type 0} (R : X → X → Type 0) (xs : List X) (k : ℕ) (x y : X) → slice_get xs k ≡ Some x → ((z : X) → R z x → R z y)
    → ((z : X) → R x z → R y z) → PairsByRecursion R xs → PairsByRecursion R (slice_set xs k y)
set_pairs R [] k x y e before behind h = tt
set_pairs R (z ∷ zs) zero x y e before behind h = (weaker zs (subst (λ w. AllByRecursion (R w) zs) (some_is z x e) h.0), h.1)
  where
    weaker : (ws : List _) → AllByRecursion (R x) ws → AllByRecursion (R y) ws
    weaker [] a = tt
    weaker (w ∷ ws) a = (behind w a.0, weaker ws a.1)
set_pairs R (z ∷ zs) (suc k) x y e before behind h = (set_all (R z) zs k x y e (before z) h.0, set_pairs R zs k x y e before behind h.1)

pub set_length : {X : Type 0} (xs : List X) (k : ℕ) (y : X) → length (slice_set xs k y) ≡ length xs
set_length [] k y = refl
set_length (x ∷ xs) zero y = refl
set_length (x ∷ xs) (suc k) y = ap (λ n. suc n) (set_length xs k y)

-- what a map does not see stays
pub set_same : {X Y : Type 0} (f : X → Y) (xs : List X) (k : ℕ) (x y : X) → slice_get xs k ≡ Some x → f y ≡ f x → map f (slice_set xs k y) ≡ map f xs
set_same f [] k x y g e = refl
set_same f (z ∷ zs) zero x y g e = ap (λ w. w ∷ map f zs) (e ∙ ap f (sym (some_is z x g)))
set_same f (z ∷ zs) (suc k) x y g e = ap (λ ws. f z ∷ ws) (set_same f zs k x y g e)

pub set_fewer : {X Y : Type 0} (of : X → List Y) (xs : List X) (k : ℕ) (x y : X) → slice_get xs k ≡ Some x → Fewer (of y) (of x)
    → Fewer (flat_map of (slice_set xs k y)) (flat_map of xs)
set_fewer of [] k x y g h = none
set_fewer of (z ∷ zs) zero x y g h = fewer_append (subst (λ w. Fewer (of y) (of w)) (sym (some_is z x g)) h) (same (flat_map of zs))
set_fewer of (z ∷ zs) (suc k) x y g h = fewer_append (same (of z)) (set_fewer of zs k x y g h)

-- of the member at an index, where it is there
pub changed_all : {X : Type 0} (P : X → Type 0) (change : X → X) (xs : List X) (k : ℕ) → IfSome (slice_get xs k) (λ x. P x → P (change x))
    → AllByRecursion P xs → AllByRecursion P (with_changed change xs k)
changed_all P change xs k keeps h = at (slice_get xs k) refl keeps
  where
    at : (o : Option _) → slice_get xs k ≡ o → IfSome o (λ x. P x → P (change x)) → AllByRecursion P (option_map_or (λ x. slice_set xs k (change x)) o xs)
    at None e f = h
    at (Some x) e f = set_all P xs k x (change x) e f h

pub changed_pairs : {X : Type 0} (R : X → X → Type 0) (change : X → X) (xs : List X) (k : ℕ) → ((x z : X) → R z x → R z (change x))
    → ((x z : X) → R x z → R (change x) z) → PairsByRecursion R xs → PairsByRecursion R (with_changed change xs k)
changed_pairs R change xs k before behind h = at (slice_get xs k) refl
  where
    at : (o : Option _) → slice_get xs k ≡ o → PairsByRecursion R (option_map_or (λ x. slice_set xs k (change x)) o xs)
    at None e = h
    at (Some x) e = set_pairs R xs k x (change x) e (before x) (behind x) h

pub changed_length : {X : Type 0} (change : X → X) (xs : List X) (k : ℕ) → length (with_changed change xs k) ≡ length xs
changed_length change xs k = at (slice_get xs k)
  where
    at : (o : Option _) → length (option_map_or (λ x. slice_set xs k (change x)) o xs) ≡ length xs
    at None = refl
    at (Some x) = set_length xs k (change x)

pub changed_fewer : {X Y : Type 0} (of : X → List Y) (change : X → X) (xs : List X) (k : ℕ) → ((x : X) → Fewer (of (change x)) (of x))
    → Fewer (flat_map of (with_changed change xs k)) (flat_map of xs)
changed_fewer of change xs k fewer = at (slice_get xs k) refl
  where
    at : (o : Option _) → slice_get xs k ≡ o → Fewer (flat_map of (option_map_or (λ x. slice_set xs k (change x)) o xs)) (flat_map of xs)
    at None e = same (flat_map of xs)
    at (Some x) e = set_fewer of xs k x (change x) e (fewer x)

-- of the first member that passes, where there is one
pub first_all : {X : Type 0} (P : X → Type 0) (change : X → X) (passes : X → Bool) (xs : List X) → IfSome (first_where passes xs) (λ x. P x → P (change x))
    → AllByRecursion P xs → AllByRecursion P (with_first_changed change passes xs)
first_all P change passes xs keeps h = at (position passes xs) keeps
  where
    at : (o : Option ℕ) → IfSome (option_and_then (slice_get xs) o) (λ x. P x → P (change x)) → AllByRecursion P (option_map_or (with_changed change xs) o xs)
    at None f = h
    at (Some k) f = changed_all P change xs k f h

pub first_pairs : {X : Type 0} (R : X → X → Type 0) (change : X → X) (passes : X → Bool) (xs : List X) → ((x z : X) → R z x → R z (change x))
    → ((x z : X) → R x z → R (change x) z) → PairsByRecursion R xs → PairsByRecursion R (with_first_changed change passes xs)
first_pairs R change passes xs before behind h = at (position passes xs)
  where
    at : (o : Option ℕ) → PairsByRecursion R (option_map_or (with_changed change xs) o xs)
    at None = h
    at (Some k) = changed_pairs R change xs k before behind h

pub first_length : {X : Type 0} (change : X → X) (passes : X → Bool) (xs : List X) → length (with_first_changed change passes xs) ≡ length xs
first_length change passes xs = at (position passes xs)
  where
    at : (o : Option ℕ) → length (option_map_or (with_changed change xs) o xs) ≡ length xs
    at None = refl
    at (Some k) = changed_length change xs k

pub first_fewer : {X Y : Type 0} (of : X → List Y) (change : X → X) (passes : X → Bool) (xs : List X) → ((x : X) → Fewer (of (change x)) (of x))
    → Fewer (flat_map of (with_first_changed change passes xs)) (flat_map of xs)
first_fewer of change passes xs fewer = at (position passes xs)
  where
    at : (o : Option ℕ) → Fewer (flat_map of (option_map_or (with_changed change xs) o xs)) (flat_map of xs)
    at None = same (flat_map of xs)
    at (Some k) = changed_fewer of change xs k fewer

-- Parts of lists.

pub all_left : {X : Type 0} (P : X → Type 0) (xs ys : List X) → AllByRecursion P (xs ++ ys) → AllByRecursion P xs
all_left P [] ys h = tt
all_left P (x ∷ xs) ys h = (h.0, all_left P xs ys h.1)

pub all_right : {X : Type 0} (P : X → Type 0) (xs ys : List X) → AllByRecursion P (xs ++ ys) → AllByRecursion P ys
all_right P [] ys h = h
all_right P (x ∷ xs) ys h = all_right P xs ys h.1

pub all_append : {X : Type 0} (P : X → Type 0) (xs ys : List X) → AllByRecursion P xs → AllByRecursion P ys → AllByRecursion P (xs ++ ys)
all_append P [] ys h k = k
all_append P (x ∷ xs) ys h k = (h.0, all_append P xs ys h.1 k)

pub split_and : (a b : Bool) → (a && b) ≡ true → (a ≡ true) × (b ≡ true)
split_and true b e = (refl, e)
split_and false b e = absurd (let none : ⊥ = cc in none)

pub not_true : (b : Bool) → not b ≡ true → b ≡ false
not_true true e = sym e
not_true false e = refl

pub all_weaker : {X : Type 0} (P Q : X → Type 0) → ((x : X) → P x → Q x) → (xs : List X) → AllByRecursion P xs → AllByRecursion Q xs
all_weaker P Q f [] h = tt
all_weaker P Q f (x ∷ xs) h = (f x h.0, all_weaker P Q f xs h.1)

-- the first member that passes is a member
pub first_holds : {X : Type 0} (P : X → Type 0) (passes : X → Bool) (xs : List X) → AllByRecursion P xs → IfSome (first_where passes xs) P
first_holds P passes xs h = at (position passes xs)
  where
    get : (ys : List _) (k : ℕ) → AllByRecursion P ys → IfSome (slice_get ys k) P
    get [] k a = tt
    get (y ∷ ys) zero a = a.0
    get (y ∷ ys) (suc k) a = get ys k a.1

    at : (o : Option ℕ) → IfSome (option_and_then (slice_get xs) o) P
    at None = tt
    at (Some k) = get xs k h

-- Lists that gained a member.

-- the second list is the first one, and has one member more or none
pub data Gains {X : Type 0} (m : X) : List X → List X → Type 0 where
  stay : {xs : List X} → Gains m xs xs
  here : {xs : List X} → Gains m xs (m ∷ xs)
  there : (x : X) {xs ys : List X} → Gains m xs ys → Gains m (x ∷ xs) (x ∷ ys)

pub gains_all : {X : Type 0} (P : X → Type 0) (m : X) {xs ys : List X} → Gains m xs ys → P m → AllByRecursion P xs → AllByRecursion P ys
gains_all P m stay one h = h
gains_all P m here one h = (one, h)
gains_all P m (there x g) one h = (h.0, gains_all P m g one h.1)

-- the member differs from those before it and from those behind it
pub gains_pairs : {X : Type 0} (R : X → X → Type 0) (m : X) {xs ys : List X} → Gains m xs ys → AllByRecursion (λ x. R x m) xs → AllByRecursion (R m) xs
    → PairsByRecursion R xs → PairsByRecursion R ys
gains_pairs R m stay before behind h = h
gains_pairs R m here before behind h = (behind, h)
gains_pairs R m (there x g) before behind h = (gains_all (R x) m g before.0 h.0, gains_pairs R m g before.1 behind.1 h.1)

pub gains_behind : {X : Type 0} (m : X) (zs : List X) {xs ys : List X} → Gains m xs ys → Gains m (zs ++ xs) (zs ++ ys)
gains_behind m [] g = g
gains_behind m (z ∷ zs) g = there z (gains_behind m zs g)

pub gains_before : {X : Type 0} (m : X) (zs : List X) {xs ys : List X} → Gains m xs ys → Gains m (xs ++ zs) (ys ++ zs)
gains_before m zs stay = stay
gains_before m zs here = here
gains_before m zs (there x g) = there x (gains_before m zs g)

pub gains_end : {X Y : Type 0} (f : X → Y) (x : X) (xs : List X) → Gains (f x) (map f xs) (map f (xs ++ x ∷ []))
gains_end f x [] = here
gains_end f x (z ∷ xs) = there (f z) (gains_end f x xs)

set_gains : {X Y : Type 0} (of : X → List Y) (m : Y) (xs : List X) (k : ℕ) (x y : X) → slice_get xs k ≡ Some x → Gains m (of x) (of y)
    → Gains m (flat_map of xs) (flat_map of (slice_set xs k y))
set_gains of m [] k x y g h = stay
set_gains of m (z ∷ zs) zero x y g h = gains_before m (flat_map of zs) (subst (λ w. Gains m (of w) (of y)) (sym (some_is z x g)) h)
set_gains of m (z ∷ zs) (suc k) x y g h = gains_behind m (of z) (set_gains of m zs k x y g h)

pub changed_gains : {X Y : Type 0} (of : X → List Y) (m : Y) (change : X → X) (xs : List X) (k : ℕ) → ((x : X) → Gains m (of x) (of (change x)))
    → Gains m (flat_map of xs) (flat_map of (with_changed change xs k))
changed_gains of m change xs k gains = at (slice_get xs k) refl
  where
    at : (o : Option _) → slice_get xs k ≡ o → Gains m (flat_map of xs) (flat_map of (option_map_or (λ x. slice_set xs k (change x)) o xs))
    at None e = stay
    at (Some x) e = set_gains of m xs k x (change x) e (gains x)

either : {X : Type 0} (x : X) (xs ys : List X) (b : Bool) → Fewer xs ys → Fewer (cond b (x ∷ xs) xs) (x ∷ ys)
either x xs ys true f = keep x f
either x xs ys false f = skip x f

pub fewer_filtered : {X : Type 0} (p : X → Bool) {xs ys : List X} → Fewer xs ys → Fewer (filter p xs) ys
fewer_filtered p none = none
fewer_filtered p (keep x f) = either x _ _ (p x) (fewer_filtered p f)
fewer_filtered p (skip y f) = skip y (fewer_filtered p f)

-- one member more, at the end
pub pairs_push : {X : Type 0} (R : X → X → Type 0) (xs : List X) (y : X) → AllByRecursion (λ x. R x y) xs → PairsByRecursion R xs → PairsByRecursion R (xs ++ y ∷ [])
pairs_push R [] y all h = (tt, tt)
pairs_push R (x ∷ xs) y all h = (all_append (R x) xs (y ∷ []) h.0 (all.0, tt), pairs_push R xs y all.1 h.1)

-- no member passes where none has an index
pub none_passes : {X : Type 0} (p : X → Bool) (xs : List X) → position p xs ≡ None → AllByRecursion (λ x. p x ≡ false) xs
none_passes p xs e = by xs (at (nat_lt (prefix_len (λ x. not (p x)) xs) (length xs)) e)
  where
    at : (b : Bool) → cond b (Some (prefix_len (λ x. not (p x)) xs)) None ≡ None → b ≡ false
    at true n = absurd (let none : ⊥ = cc in none)
    at false n = refl

    fewer : (n len : ℕ) → nat_lt (1 + n) (suc len) ≡ false → nat_lt n len ≡ false
    fewer n len h = grind (arith, nat_tests)

    first : (len : ℕ) → nat_lt 0 (suc len) ≡ true
    first len = grind (arith, nat_tests)

    each : (b : Bool) (n len : ℕ) → nat_lt (cond (not b) (1 + n) 0) (suc len) ≡ false → (b ≡ false) × (nat_lt n len ≡ false)
    each true n len h = absurd (let t : nat_lt 0 (suc len) ≡ true = first len in let none : ⊥ = cc in none)
    each false n len h = (refl, fewer n len h)

    by : (ys : List _) → nat_lt (prefix_len (λ x. not (p x)) ys) (length ys) ≡ false → AllByRecursion (λ x. p x ≡ false) ys
    by [] h = tt
    by (y ∷ ys) h = let both = each (p y) (prefix_len (λ x. not (p x)) ys) (length ys) h in (both.0, by ys both.1)

-- the first member that passes does
pub first_passes : {X : Type 0} (p : X → Bool) (xs : List X) → IfSome (first_where p xs) (λ x. p x ≡ true)
first_passes p xs = at (position p xs) refl
  where
    of : (k : ℕ) → position p xs ≡ Some k → (o : Option _) → slice_get xs k ≡ o → IfSome o (λ x. p x ≡ true)
    of k found None e = tt
    of k found (Some x) e = subst (λ y. p y ≡ true) (get_or_from_slice_get xs k x x e) ((position-Some p xs k x found).1)

    at : (o : Option ℕ) → position p xs ≡ o → IfSome (option_and_then (slice_get xs) o) (λ x. p x ≡ true)
    at None e = tt
    at (Some k) e = of k e (slice_get xs k) refl

pub last_holds : {X : Type 0} (P : X → Type 0) (o : Option X) (xs : List X) → IfSome o P → AllByRecursion P xs → IfSome (last_or o xs) P
last_holds P o [] h all = h
last_holds P o (x ∷ xs) h all = last_holds P (Some x) xs all.0 all.1

pub first_gains : {X Y : Type 0} (of : X → List Y) (m : Y) (change : X → X) (passes : X → Bool) (xs : List X) → ((x : X) → Gains m (of x) (of (change x)))
    → Gains m (flat_map of xs) (flat_map of (with_first_changed change passes xs))
first_gains of m change passes xs gains = at (position passes xs)
  where
    at : (o : Option ℕ) → Gains m (flat_map of xs) (flat_map of (option_map_or (with_changed change xs) o xs))
    at None = stay
    at (Some k) = changed_gains of m change xs k gains
