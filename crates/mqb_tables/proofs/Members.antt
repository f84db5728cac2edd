-- One member of a list is changed, also as the members are seen.
use Rattle.std.proofs.Common.{◌≡◌, ◌≢◌, ℕ, zero, suc, ◌+◌, ◌-◌, ◌<◌, ◌≤◌, List, [], ◌∷◌, ◌++◌, length, set, map, take, drop, Option, Some, None, refl, sym, ap, ◌∙◌, subst, arith}
use Rattle.std.specs.Prelude.{slice_get}
use Rattle.std.specs.List.{All, insert, remove}
use Rattle.std.specs.Option.{IsSomeAnd, option_map, option_map_or}
use Rattle.std.proofs.lemmas.List.{get_or_push, length-take-le, length_push, map-set, set-set, take-map, take_all, take_at, take_more, length-map}
use Rattle.std.proofs.lemmas.List.Edits.{length-remove}
use Rattle.std.proofs.lemmas.List.Elements.{All-append, All-cons, All-drop, All-get_or, All-take}
use Rattle.std.proofs.lemmas.Option.{get_or_from_slice_get, none-some, same_Some, slice_get-get_or, slice_get-map, slice_get_within}
use Rattle.mqb_model.specs.Lists.{with_changed}
use Rattle.mqb_tables.specs.Ends.{last_else, last_of, without_last}

-- ---- one member

-- a fact of a member that is there
pub at_some : {X : Type 0} (P : X → Type 0) (o : Option X) → IsSomeAnd o P → (x : X) × (o ≡ Some x) × P x
at_some P None h = absurd h
at_some P (Some x) h = (x, refl, h)

pub get-set : {X : Type 0} (xs : List X) (k : ℕ) (x y : X) → slice_get xs k ≡ Some x → slice_get (set xs k y) k ≡ Some y
get-set [] k x y is = absurd (none-some x is)
get-set (z ∷ xs) zero x y is = refl
get-set (z ∷ xs) (suc k) x y is = get-set xs k x y is

pub get-set_other : {X : Type 0} (xs : List X) (k j : ℕ) (y : X) → j ≢ k → slice_get (set xs k y) j ≡ slice_get xs j
get-set_other [] k j y h = refl
get-set_other (x ∷ xs) zero zero y h = absurd (h refl)
get-set_other (x ∷ xs) zero (suc j) y h = refl
get-set_other (x ∷ xs) (suc k) zero y h = refl
get-set_other (x ∷ xs) (suc k) (suc j) y h = get-set_other xs k j y (λ e. h (ap suc e))

pub set_same : {X : Type 0} (xs : List X) (k : ℕ) (x : X) → slice_get xs k ≡ Some x → set xs k x ≡ xs
set_same [] k x is = refl
set_same (z ∷ xs) zero x is = ap (λ y. y ∷ xs) (sym (same_Some z x is))
set_same (z ∷ xs) (suc k) x is = ap (λ ys. z ∷ ys) (set_same xs k x is)

pub changed_is : {X : Type 0} (change : X → X) (xs : List X) (k : ℕ) (x : X) → slice_get xs k ≡ Some x → with_changed change xs k ≡ set xs k (change x)
changed_is {X} change xs k x is = ap (λ (o : Option X). option_map_or (λ y. set xs k (change y)) o xs) is

pub changed_there : {X : Type 0} (change : X → X) (xs : List X) (k : ℕ) (x : X) → slice_get xs k ≡ Some x → slice_get (with_changed change xs k) k ≡ Some (change x)
changed_there {X} change xs k x is = ap (λ (ys : List X). slice_get ys k) (changed_is change xs k x is) ∙ get-set xs k x (change x) is

-- changed and changed back
pub changed_back : {X : Type 0} (change back : X → X) (xs : List X) (k : ℕ) (x : X) → slice_get xs k ≡ Some x → back (change x) ≡ x
    → with_changed back (with_changed change xs k) k ≡ xs
changed_back {X} change back xs k x is same =
    changed_is back (with_changed change xs k) k (change x) (changed_there change xs k x is)
    ∙ (ap (λ (ys : List X). set ys k (back (change x))) (changed_is change xs k x is)
    ∙ (set-set xs k (change x) (back (change x))
    ∙ (ap (λ (y : X). set xs k y) same ∙ set_same xs k x is)))

-- ---- a member as it is seen

module _ {X Y : Type 0} (see : X → Y) (xs : List X) (k : ℕ) (x y : X) (is : slice_get xs k ≡ Some x) where
  pub seen_there : slice_get (map see xs) k ≡ Some (see x)
  seen_there = slice_get-map see xs k ∙ ap (option_map see) is

  pub seen_changed : (change : Y → Y) → see y ≡ change (see x) → map see (set xs k y) ≡ with_changed change (map see xs) k
  seen_changed change same =
      map-set see xs k y ∙ (ap (λ (z : Y). set (map see xs) k z) same ∙ sym (changed_is change (map see xs) k (see x) seen_there))

  pub seen_same : see y ≡ see x → map see (set xs k y) ≡ map see xs
  seen_same same = map-set see xs k y ∙ (ap (λ (z : Y). set (map see xs) k z) same ∙ set_same (map see xs) k (see x) seen_there)

  pub seen_now : slice_get (map see (set xs k y)) k ≡ Some (see y)
  seen_now = slice_get-map see (set xs k y) k ∙ ap (option_map see) (get-set xs k x y is)

-- ---- members that come and go

pub remove-insert : {X : Type 0} (xs : List X) (i : ℕ) (x : X) → i ≤ length xs → remove (insert xs i x) i ≡ xs
remove-insert xs zero x h = refl
remove-insert [] (suc i) x h = absurd (omega (arith, h))
remove-insert (y ∷ ys) (suc i) x h = ap (λ l. y ∷ l) (remove-insert ys i x (omega (arith, h)))

pub insert-remove : {X : Type 0} (xs : List X) (i : ℕ) (x : X) → slice_get xs i ≡ Some x → insert (remove xs i) i x ≡ xs
insert-remove [] i x h = absurd (none-some x h)
insert-remove (y ∷ ys) zero x h = ap (λ z. z ∷ ys) (sym (same_Some y x h))
insert-remove (y ∷ ys) (suc i) x h = ap (λ l. y ∷ l) (insert-remove ys i x h)

pub length-inserted : {X : Type 0} (xs : List X) (i : ℕ) (x : X) → i ≤ length xs → i < length (insert xs i x)
length-inserted xs zero x h = omega arith
length-inserted [] (suc i) x h = absurd (omega (arith, h))
length-inserted (y ∷ ys) (suc i) x h = let k : i < length (insert ys i x) = length-inserted ys i x (omega (arith, h)) in omega (arith, k)

pub there : {X : Type 0} (xs : List X) (i : ℕ) → i < length xs → (x : X) × (slice_get xs i ≡ Some x)
there [] i h = absurd (omega (arith, h))
there (y ∷ ys) zero h = (y, refl)
there (y ∷ ys) (suc i) h = there ys i (omega (arith, h))

-- ---- the last member

pub last_pushed : {X : Type 0} (xs : List X) (x : X) → last_of (xs ++ x ∷ []) ≡ Some x
last_pushed xs x =
    let e : length (xs ++ x ∷ []) ≡ length xs + 1 = length_push xs x in
    slice_get-get_or (xs ++ x ∷ []) (length (xs ++ x ∷ []) - 1) x (omega (arith, e)) ∙ ap Some (get_or_push xs x x (length (xs ++ x ∷ []) - 1) (omega (arith, e)))

pub pushed_without_last : {X : Type 0} (xs : List X) (x : X) → without_last (xs ++ x ∷ []) ≡ xs
pushed_without_last xs x = take_at xs (x ∷ []) (length (xs ++ x ∷ []) - 1) (let e : length (xs ++ x ∷ []) ≡ length xs + 1 = length_push xs x in omega (arith, e))

pub without_last_pushed : {X : Type 0} (xs : List X) (x : X) → last_of xs ≡ Some x → without_last xs ++ x ∷ [] ≡ xs
without_last_pushed xs x h =
    let inside : length xs - 1 < length xs = slice_get_within xs (length xs - 1) x h in
    let last : length xs - 1 + 1 ≡ length xs = omega (arith, inside) in
    ap (λ y. take (length xs - 1) xs ++ y ∷ []) (sym (get_or_from_slice_get xs (length xs - 1) x x h))
    ∙ (sym (take_more xs (length xs - 1) x inside) ∙ take_all (length xs - 1 + 1) xs (omega (arith, last)))

pub without_last_else : {X : Type 0} (xs : List X) (other : X) → 0 < length xs → without_last xs ++ last_else xs other ∷ [] ≡ xs
without_last_else xs other some =
    let last : length xs - 1 + 1 ≡ length xs = omega (arith, some) in
    sym (take_more xs (length xs - 1) other (omega (arith, some))) ∙ take_all (length xs - 1 + 1) xs (omega (arith, last))

pub length-without_last : {X : Type 0} (xs : List X) → length (without_last xs) ≡ length xs - 1
length-without_last xs = length-take-le (length xs - 1) xs (omega arith)

-- as the members are seen
pub seen_last : {X Y : Type 0} (see : X → Y) (xs : List X) (x : X) → last_of xs ≡ Some x → last_of (map see xs) ≡ Some (see x)
seen_last see xs x is = ap (λ n. slice_get (map see xs) (n - 1)) (length-map xs see) ∙ (slice_get-map see xs (length xs - 1) ∙ ap (option_map see) is)

pub seen_without_last : {X Y : Type 0} (see : X → Y) (xs : List X) → map see (without_last xs) ≡ without_last (map see xs)
seen_without_last see xs = sym (take-map see (length xs - 1) xs) ∙ ap (λ n. take (n - 1) (map see xs)) (sym (length-map xs see))

-- ---- facts of all members

pub all_at : {X : Type 0} (P : X → Type 0) (xs : List X) (k : ℕ) (x : X) → slice_get xs k ≡ Some x → All P xs → P x
all_at P xs k x is h = subst P (get_or_from_slice_get xs k x x is) (All-get_or P xs k x (slice_get_within xs k x is) h)

pub all_insert : {X : Type 0} (P : X → Type 0) (xs : List X) (k : ℕ) (x : X) → P x → All P xs → All P (insert xs k x)
all_insert P xs k x it h = All-append P (take k xs) (x ∷ drop k xs) (All-take P k xs h) (All-cons P x (drop k xs) it (All-drop P k xs h))

pub all_remove : {X : Type 0} (P : X → Type 0) (xs : List X) (k : ℕ) → All P xs → All P (remove xs k)
all_remove P xs k h = All-append P (take k xs) (drop (suc k) xs) (All-take P k xs h) (All-drop P (suc k) xs h)

pub length-removed : {X : Type 0} (xs : List X) (i : ℕ) → i < length xs → i ≤ length (remove xs i)
length-removed xs i h = let e : length (remove xs i) + 1 ≡ length xs = length-remove xs i h in omega (arith, e)
