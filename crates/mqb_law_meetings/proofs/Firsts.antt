-- The first member that passes, by the members one after another, and sums of lists of which a member changed.
use Rattle.std.proofs.Common.{◌≡◌, ℕ, zero, suc, ◌+◌, ◌<◌, ◌≤◌, Bool, true, false, cond, not, nat_lt, List, [], ◌∷◌, ◌++◌, Option, Some, None, refl, sym, ap, subst, ◌∙◌, arith, one-add}
use Rattle.std.proofs.lemmas.Bool.Decides.{nat_tests}
use Rattle.std.proofs.lemmas.List.Elements.{recursion_from_All}
use Rattle.std.proofs.lemmas.List.Sums.{sum_by-cons}
use Rattle.std.specs.List.{AllByRecursion, prefix_len}
use Rattle.std.specs.Option.{option_map_or}
use Rattle.std.specs.Prelude.{AllPairs, IfSome, length, map, option_and_then, option_map, position, slice_get, slice_set, sum}
use Rattle.mqb_model.specs.Lists.{first_where, with_changed, with_first_changed}

-- The first one.

first : (n : ℕ) → nat_lt 0 (suc n) ≡ true
first n = grind (arith, nat_tests)

more : (k n : ℕ) → nat_lt (1 + k) (suc n) ≡ nat_lt k n
more k n = grind (arith, nat_tests)

pub position_cons : {X : Type 0} (p : X → Bool) (x : X) (xs : List X) → position p (x ∷ xs) ≡ cond (p x) (Some 0) (option_map (λ k. suc k) (position p xs))
position_cons p x xs = at (p x)
  where
    n : ℕ
    n = prefix_len (λ x. not (p x)) xs

    rest : (b : Bool) → cond b (Some (1 + n)) None ≡ option_map (λ k. suc k) (cond b (Some n) None)
    rest true = ap (λ k. Some k) (one-add n)
    rest false = refl

    at : (b : Bool) → cond (nat_lt (cond (not b) (1 + n) 0) (suc (length xs))) (Some (cond (not b) (1 + n) 0)) None
        ≡ cond b (Some 0) (option_map (λ k. suc k) (cond (nat_lt n (length xs)) (Some n) None))
    at true = ap (λ c. cond c (Some 0) None) (first (length xs))
    at false = ap (λ c. cond c (Some (1 + n)) None) (more n (length xs)) ∙ rest (nat_lt n (length xs))

pub first_cons : {X : Type 0} (p : X → Bool) (x : X) (xs : List X) → first_where p (x ∷ xs) ≡ cond (p x) (Some x) (first_where p xs)
first_cons p x xs = ap (λ o. option_and_then (slice_get (x ∷ xs)) o) (position_cons p x xs) ∙ at (p x)
  where
    shifted : (o : Option ℕ) → option_and_then (slice_get (x ∷ xs)) (option_map (λ k. suc k) o) ≡ option_and_then (slice_get xs) o
    shifted None = refl
    shifted (Some k) = refl

    at : (b : Bool) → option_and_then (slice_get (x ∷ xs)) (cond b (Some 0) (option_map (λ k. suc k) (position p xs))) ≡ cond b (Some x) (first_where p xs)
    at true = refl
    at false = shifted (position p xs)

pub changed_cons : {X : Type 0} (change : X → X) (y : X) (xs : List X) (k : ℕ) → with_changed change (y ∷ xs) (suc k) ≡ y ∷ with_changed change xs k
changed_cons change y xs k = at (slice_get xs k)
  where
    at : (o : Option _) → option_map_or (λ x. slice_set (y ∷ xs) (suc k) (change x)) o (y ∷ xs) ≡ y ∷ option_map_or (λ x. slice_set xs k (change x)) o xs
    at None = refl
    at (Some x) = refl

pub first_changed_cons : {X : Type 0} (change : X → X) (p : X → Bool) (y : X) (xs : List X)
    → with_first_changed change p (y ∷ xs) ≡ cond (p y) (change y ∷ xs) (y ∷ with_first_changed change p xs)
first_changed_cons change p y xs = ap (λ o. option_map_or (with_changed change (y ∷ xs)) o (y ∷ xs)) (position_cons p y xs) ∙ at (p y)
  where
    behind : (o : Option ℕ) → option_map_or (with_changed change (y ∷ xs)) (option_map (λ k. suc k) o) (y ∷ xs) ≡ y ∷ option_map_or (with_changed change xs) o xs
    behind None = refl
    behind (Some k) = changed_cons change y xs k

    at : (b : Bool) → option_map_or (with_changed change (y ∷ xs)) (cond b (Some 0) (option_map (λ k. suc k) (position p xs))) (y ∷ xs)
        ≡ cond b (change y ∷ xs) (y ∷ with_first_changed change p xs)
    at true = refl
    at false = behind (position p xs)

-- where the first one that passes is at an index, it is the one that changes
pub first_at : {X : Type 0} (change : X → X) (p : X → Bool) (xs : List X) (k : ℕ) → position p xs ≡ Some k → with_first_changed change p xs ≡ with_changed change xs k
first_at change p xs k found = ap (λ o. option_map_or (with_changed change xs) o xs) found

-- a change that leaves the member alone leaves the list alone
pub changed_same : {X : Type 0} (change : X → X) (xs : List X) (k : ℕ) → IfSome (slice_get xs k) (λ x. change x ≡ x) → with_changed change xs k ≡ xs
changed_same change [] k h = refl
changed_same change (x ∷ xs) zero h = ap (λ y. y ∷ xs) h
changed_same change (x ∷ xs) (suc k) h = changed_cons change x xs k ∙ ap (λ ys. x ∷ ys) (changed_same change xs k h)

-- What all members have.

pub changed_all : {X : Type 0} (P : X → Type 0) (change : X → X) → ((x : X) → P x → P (change x)) → (xs : List X) (k : ℕ) → AllByRecursion P xs → AllByRecursion P (with_changed change xs k)
changed_all P change keeps [] k h = tt
changed_all P change keeps (x ∷ xs) zero h = (keeps x h.0, h.1)
changed_all P change keeps (x ∷ xs) (suc k) h = subst (AllByRecursion P) (sym (changed_cons change x xs k)) (h.0, changed_all P change keeps xs k h.1)

pub all_weaker : {X : Type 0} (P Q : X → Type 0) → ((x : X) → P x → Q x) → (xs : List X) → AllByRecursion P xs → AllByRecursion Q xs
all_weaker P Q f [] h = tt
all_weaker P Q f (x ∷ xs) h = (f x h.0, all_weaker P Q f xs h.1)

pub all_append : {X : Type 0} (P : X → Type 0) (xs ys : List X) → AllByRecursion P xs → AllByRecursion P ys → AllByRecursion P (xs ++ ys)
all_append P [] ys h k = k
all_append P (x ∷ xs) ys h k = (h.0, all_append P xs ys h.1 k)

pub all_got : {X : Type 0} (P : X → Type 0) (xs : List X) (k : ℕ) (x : X) → slice_get xs k ≡ Some x → AllByRecursion P xs → P x
all_got P [] k x e h = absurd (let none : ⊥ = cc in none)
all_got P (y ∷ ys) zero x e h = subst P (let same : y ≡ x = cc in same) h.0
all_got P (y ∷ ys) (suc k) x e h = all_got P ys k x e h.1

-- Sums.

pub sum_cons : (n : ℕ) (ns : List ℕ) → sum (n ∷ ns) ≡ n + sum ns
sum_cons n ns = sum_by-cons (λ (m : ℕ). m) n ns

pub changed_sum : {X : Type 0} (f : X → ℕ) (change : X → X) (count : ℕ) → ((x : X) → f (change x) ≤ f x + count) → (xs : List X) (k : ℕ)
    → sum (map f (with_changed change xs k)) ≤ sum (map f xs) + count
changed_sum f change count rises [] k = omega arith
changed_sum f change count rises (x ∷ xs) zero = let a = sum_cons (f (change x)) (map f xs) in let b = sum_cons (f x) (map f xs) in let r = rises x in omega (arith, a, b, r)
changed_sum f change count rises (x ∷ xs) (suc k) = subst (λ ys. sum (map f ys) ≤ sum (map f (x ∷ xs)) + count) (sym (changed_cons change x xs k))
    (let a = sum_cons (f x) (map f (with_changed change xs k)) in let b = sum_cons (f x) (map f xs) in let r = changed_sum f change count rises xs k in omega (arith, a, b, r))

-- a member at an index that falls by so much
pub changed_falls : {X : Type 0} (f : X → ℕ) (change : X → X) (count : ℕ) (xs : List X) (k : ℕ) (x : X) → slice_get xs k ≡ Some x → f (change x) + count ≤ f x
    → sum (map f (with_changed change xs k)) + count ≤ sum (map f xs)
changed_falls f change count [] k x e falls = absurd (let none : ⊥ = cc in none)
changed_falls f change count (y ∷ ys) zero x e falls = let same : y ≡ x = cc in let r : f (change y) + count ≤ f y = subst (λ z. f (change z) + count ≤ f z) (sym same) falls in
    let a = sum_cons (f (change y)) (map f ys) in let b = sum_cons (f y) (map f ys) in omega (arith, a, b, r)
changed_falls f change count (y ∷ ys) (suc k) x e falls = subst (λ zs. sum (map f zs) + count ≤ sum (map f (y ∷ ys))) (sym (changed_cons change y ys k))
    (let a = sum_cons (f y) (map f (with_changed change ys k)) in let b = sum_cons (f y) (map f ys) in let r = changed_falls f change count ys k x e falls in omega (arith, a, b, r))

-- what a member at any index comes to does not rise
pub changed_at_most : {X : Type 0} (g : X → ℕ) (change : X → X) → ((x : X) → g (change x) ≤ g x) → (xs : List X) (j k : ℕ)
    → option_map_or g (slice_get (with_changed change xs j) k) 0 ≤ option_map_or g (slice_get xs k) 0
changed_at_most g change less [] j k = omega arith
changed_at_most g change less (x ∷ xs) zero zero = less x
changed_at_most g change less (x ∷ xs) zero (suc k) = omega arith
changed_at_most g change less (x ∷ xs) (suc j) zero = subst (λ ys. option_map_or g (slice_get ys 0) 0 ≤ g x) (sym (changed_cons change x xs j)) (omega arith)
changed_at_most g change less (x ∷ xs) (suc j) (suc k) = subst (λ ys. option_map_or g (slice_get ys (suc k)) 0 ≤ option_map_or g (slice_get xs k) 0) (sym (changed_cons change x xs j))
    (changed_at_most g change less xs j k)

-- Pairs.

-- each two members, the earlier one first
abbrev pub PairsByRecursion : {X : Type 0} → (X → X → Type 0) → List X → Type 0
PairsByRecursion R [] = Unit {0}
PairsByRecursion R (x ∷ xs) = AllByRecursion (R x) xs × PairsByRecursion R xs

pub pairs_of : {X : Type 0} (R : X → X → Type 0) (xs : List X) → AllPairs R xs → PairsByRecursion R xs
pairs_of R [] h = tt
pairs_of R (x ∷ xs) h = (
  recursion_from_All (R x) xs (λ k d lt. let head : 0 < suc k = omega arith in let within : suc k < length (x ∷ xs) = omega arith in h 0 (suc k) d head within),
  pairs_of R xs (λ i j d less lt. let rises : suc i < suc j = omega arith in let within : suc j < length (x ∷ xs) = omega arith in h (suc i) (suc j) d rises within),
)

pub pairs_right : {X : Type 0} (R : X → X → Type 0) (xs ys : List X) → PairsByRecursion R (xs ++ ys) → PairsByRecursion R ys
pairs_right R [] ys h = h
pairs_right R (x ∷ xs) ys h = pairs_right R xs ys h.1

-- each of the first ones with each of the others
pub pairs_between : {X : Type 0} (R : X → X → Type 0) (xs ys : List X) → PairsByRecursion R (xs ++ ys) → AllByRecursion (λ x. AllByRecursion (R x) ys) xs
pairs_between R [] ys h = tt
pairs_between R (x ∷ xs) ys h = (right xs h.0, pairs_between R xs ys h.1)
  where
    right : (zs : List _) → AllByRecursion (R x) (zs ++ ys) → AllByRecursion (R x) ys
    right [] a = a
    right (z ∷ zs) a = right zs a.1
