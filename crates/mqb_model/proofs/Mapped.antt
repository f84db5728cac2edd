-- Lists whose members were mapped.
use Rattle.std.proofs.Common.{refl, ap, sym, ◌∙◌}
use Rattle.std.proofs.lemmas.List.{length-map, map-append, map-set}
use Rattle.std.specs.List.{list_any, prefix_len}
use Rattle.std.specs.Option.{option_map_or}
use Rattle.std.specs.Prelude.{◌++◌, ◌-◌, ◌==◌, ◌∷◌, ◌+◌, ◌||◌, ◌≡◌, [], Bool, List, None, Option, Some, cond, false, drop, length, map, nat_lt, not, option_map, position, remove, slice_get, slice_set, suc, take, true, zero, ℕ}
use Rattle.mqb_queue.specs.Places.{numbered, with_numbered}
use Rattle.mqb_model.specs.Lists.{with_changed, with_first_changed, without_first}

-- a test of some member
pub any_mapped : {X Y : Type 0} (test : Y → Bool) (f : X → Y) (xs : List X) → list_any test (map f xs) ≡ list_any (λ x. test (f x)) xs
any_mapped test f [] = refl
any_mapped test f (x ∷ xs) = ap (λ b. test (f x) || b) (any_mapped test f xs)

-- the index of the first member that passes
prefix_mapped : {X Y : Type 0} (p : Y → Bool) (f : X → Y) (xs : List X) → prefix_len p (map f xs) ≡ prefix_len (λ x. p (f x)) xs
prefix_mapped p f [] = refl
prefix_mapped p f (x ∷ xs) = ap (λ n. cond (p (f x)) (1 + n) 0) (prefix_mapped p f xs)

pub position_mapped : {X Y : Type 0} (p : Y → Bool) (f : X → Y) (xs : List X) → position p (map f xs) ≡ position (λ x. p (f x)) xs
position_mapped p f xs = ap (λ n. cond (nat_lt n (length (map f xs))) (Some n) None) (prefix_mapped (λ y. not (p y)) f xs)
    ∙ ap (λ n. cond (nat_lt (prefix_len (λ x. not (p (f x))) xs) n) (Some (prefix_len (λ x. not (p (f x))) xs)) None) (length-map xs f)

-- the member at an index
pub get_mapped : {X Y : Type 0} (f : X → Y) (xs : List X) (k : ℕ) → slice_get (map f xs) k ≡ option_map f (slice_get xs k)
get_mapped f [] k = refl
get_mapped f (x ∷ xs) zero = refl
get_mapped f (x ∷ xs) (suc k) = get_mapped f xs k

-- the member of a number
pub numbered_mapped : {X Y : Type 0} (f : X → Y) (xs : List X) (n : ℕ) → numbered (map f xs) n ≡ option_map f (numbered xs n)
numbered_mapped f xs n = ap (λ o. cond (n == 0) None o) (get_mapped f xs (n - 1)) ∙ at (n == 0)
  where
    at : (b : Bool) → cond b None (option_map f (slice_get xs (n - 1))) ≡ option_map f (cond b None (slice_get xs (n - 1)))
    at true = refl
    at false = refl

-- a member at an index is changed, where the change passes through the map
pub changed_mapped : {X Y : Type 0} (f : X → Y) (change : X → X) (after : Y → Y) (xs : List X) (k : ℕ) → ((x : X) → after (f x) ≡ f (change x))
    → with_changed after (map f xs) k ≡ map f (with_changed change xs k)
changed_mapped f change after xs k same = ap (λ o. option_map_or (λ y. slice_set (map f xs) k (after y)) o (map f xs)) (get_mapped f xs k) ∙ at (slice_get xs k)
  where
    at : (o : Option _) → option_map_or (λ y. slice_set (map f xs) k (after y)) (option_map f o) (map f xs) ≡ map f (option_map_or (λ x. slice_set xs k (change x)) o xs)
    at None = refl
    at (Some x) = ap (λ y. slice_set (map f xs) k y) (same x) ∙ sym (map-set f xs k (change x))

-- and so the member of a number
pub with_numbered_mapped : {X Y : Type 0} (f : X → Y) (change : X → X) (after : Y → Y) (xs : List X) (n : ℕ) → ((x : X) → after (f x) ≡ f (change x))
    → with_numbered (map f xs) n after ≡ map f (with_numbered xs n change)
with_numbered_mapped f change after xs n same = ap (λ o. option_map_or (λ y. slice_set (map f xs) (n - 1) (after y)) o (map f xs)) (numbered_mapped f xs n) ∙ at (numbered xs n)
  where
    at : (o : Option _) → option_map_or (λ y. slice_set (map f xs) (n - 1) (after y)) (option_map f o) (map f xs) ≡ map f (option_map_or (λ x. slice_set xs (n - 1) (change x)) o xs)
    at None = refl
    at (Some x) = ap (λ y. slice_set (map f xs) (n - 1) y) (same x) ∙ sym (map-set f xs (n - 1) (change x))

-- the index of the first member that passes either of two tests that agree
prefix_same : {X : Type 0} (p q : X → Bool) (xs : List X) → ((x : X) → p x ≡ q x) → prefix_len p xs ≡ prefix_len q xs
prefix_same p q [] h = refl
prefix_same p q (x ∷ xs) h = ap (λ b. cond b (1 + prefix_len p xs) 0) (h x) ∙ ap (λ n. cond (q x) (1 + n) 0) (prefix_same p q xs h)

pub position_same : {X : Type 0} (p q : X → Bool) (xs : List X) → ((x : X) → p x ≡ q x) → position p xs ≡ position q xs
position_same p q xs h = ap (λ n. cond (nat_lt n (length xs)) (Some n) None) (prefix_same (λ x. not (p x)) (λ x. not (q x)) xs (λ x. ap not (h x)))

-- a list without the member at an index
take_mapped : {X Y : Type 0} (f : X → Y) (k : ℕ) (xs : List X) → take k (map f xs) ≡ map f (take k xs)
take_mapped f zero xs = refl
take_mapped f (suc k) [] = refl
take_mapped f (suc k) (x ∷ xs) = ap (λ ys. f x ∷ ys) (take_mapped f k xs)

drop_mapped : {X Y : Type 0} (f : X → Y) (k : ℕ) (xs : List X) → drop k (map f xs) ≡ map f (drop k xs)
drop_mapped f zero xs = refl
drop_mapped f (suc k) [] = refl
drop_mapped f (suc k) (x ∷ xs) = drop_mapped f k xs

pub remove_mapped : {X Y : Type 0} (f : X → Y) (xs : List X) (k : ℕ) → remove (map f xs) k ≡ map f (remove xs k)
remove_mapped f xs k = ap (λ ys. ys ++ drop (suc k) (map f xs)) (take_mapped f k xs) ∙ ap (λ ys. map f (take k xs) ++ ys) (drop_mapped f (suc k) xs)
    ∙ sym (map-append f (take k xs) (drop (suc k) xs))

-- the first member that passes leaves
pub without_mapped : {X Y : Type 0} (p : Y → Bool) (q : X → Bool) (f : X → Y) (xs : List X) → ((x : X) → p (f x) ≡ q x)
    → without_first p (map f xs) ≡ map f (without_first q xs)
without_mapped p q f xs same = ap (λ o. option_map_or (remove (map f xs)) o (map f xs)) (position_mapped p f xs ∙ position_same (λ x. p (f x)) q xs same) ∙ at (position q xs)
  where
    at : (o : Option ℕ) → option_map_or (remove (map f xs)) o (map f xs) ≡ map f (option_map_or (remove xs) o xs)
    at None = refl
    at (Some k) = remove_mapped f xs k

-- the first member that passes is changed
pub first_changed_mapped : {X Y : Type 0} (f : X → Y) (change : X → X) (after : Y → Y) (p : Y → Bool) (q : X → Bool) (xs : List X)
    → ((x : X) → p (f x) ≡ q x) → ((x : X) → after (f x) ≡ f (change x))
    → with_first_changed after p (map f xs) ≡ map f (with_first_changed change q xs)
first_changed_mapped f change after p q xs same passes = ap (λ o. option_map_or (with_changed after (map f xs)) o (map f xs)) (position_mapped p f xs ∙ position_same (λ x. p (f x)) q xs same)
    ∙ at (position q xs)
  where
    at : (o : Option ℕ) → option_map_or (with_changed after (map f xs)) o (map f xs) ≡ map f (option_map_or (with_changed change xs) o xs)
    at None = refl
    at (Some k) = changed_mapped f change after xs k passes

-- some member passes either of two tests that agree
pub any_same : {X : Type 0} (p q : X → Bool) (xs : List X) → ((x : X) → p x ≡ q x) → list_any p xs ≡ list_any q xs
any_same p q [] h = refl
any_same p q (x ∷ xs) h = ap (λ b. b || list_any p xs) (h x) ∙ ap (λ b. q x || b) (any_same p q xs h)
