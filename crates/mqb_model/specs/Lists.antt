-- Words on lists.
use Rattle.std.specs.Option.{option_map_or}
use Rattle.std.specs.Prelude.{◌++◌, ◌+◌, ◌-◌, Bool, List, Option, length, option_and_then}
use Rattle.std.specs.Prelude.{option_map, position, remove, replicate, slice_get, slice_set, ℕ}

-- the number, from 1, of a member at an index
abbrev pub number_at : Option ℕ → Option ℕ
number_at index = option_map (λ k. k + 1) index

-- the member at an index is changed, and the others stay
abbrev pub with_changed : {X : Type 0} → (X → X) → List X → ℕ → List X
with_changed change xs k = option_map_or (λ x. slice_set xs k (change x)) (slice_get xs k) xs

-- the first member that passes is changed, and the others stay
abbrev pub with_first_changed : {X : Type 0} → (X → X) → (X → Bool) → List X → List X
with_first_changed change passes xs = option_map_or (with_changed change xs) (position passes xs) xs

-- the first member that passes
abbrev pub first_where : {X : Type 0} → (X → Bool) → List X → Option X
first_where passes xs = option_and_then (slice_get xs) (position passes xs)

-- the first member that passes leaves, and the others stay
abbrev pub without_first : {X : Type 0} → (X → Bool) → List X → List X
without_first passes xs = option_map_or (remove xs) (position passes xs) xs

-- the list with at least so many members: those that were missing are blank
abbrev pub grown : {X : Type 0} → X → ℕ → List X → List X
grown blank count xs = xs ++ replicate (count - length xs) blank
