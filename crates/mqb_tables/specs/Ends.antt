-- The last members of lists.
use Rattle.std.specs.Prelude.{◌-◌, List, Option, length, slice_get, slice_index_or, take}

-- the list without its last member
abbrev pub without_last : {X : Type 0} → List X → List X
without_last xs = take (length xs - 1) xs

-- its last member, where it has one
abbrev pub last_of : {X : Type 0} → List X → Option X
last_of xs = slice_get xs (length xs - 1)

-- its last member, or this one
abbrev pub last_else : {X : Type 0} → List X → X → X
last_else xs other = slice_index_or xs (length xs - 1) other
