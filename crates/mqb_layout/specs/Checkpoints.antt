-- What a checkpoint writes, and where.
use Rattle.std.specs.Prelude.{ℕ, ◌+◌, ◌-◌, ◌/◌, not, if◌then◌else◌, List, [], ◌∷◌, ◌++◌, length}
use Rattle.std.specs.Prelude.{replicate, Option, Some, None}
use Rattle.mqb_fields.specs.Writing.{bytes_of}
use Rattle.mqb_layout.specs.Store.{area, place_told}
use Rattle.mqb_layout.specs.declared.layout.Layout.{Layout}
use Rattle.mqb_layout.specs.Layouts.{layout_then}
use Rattle.mqb_layout.specs.declared.limits.TheConstants.{PAGE}

-- a head whose first area is in use, and both places the same
abbrev pub head : ℕ → List ℕ
head place = 0 ∷ (bytes_of 8 place ++ bytes_of 8 place)

-- an area whose first gate is closed
abbrev pub closed_area : ℕ → List ℕ → List ℕ
closed_area count base = area count base ++ 0 ∷ []

-- what is written first: the area; behind a store of version 1 with what stands before it, up
-- to the page and a head
abbrev pub block_for : Option Layout → (end count : ℕ) → List ℕ → List ℕ
block_for None end count base =
    let l : Layout = layout_then None end (length base) in
    replicate (l.head - (end + 1)) 0 ++ head l.place ++ closed_area count base
block_for (Some l) end count base = closed_area count base

-- and where
abbrev pub block_place : Option Layout → (end base : ℕ) → ℕ
block_place None end base = end + 1
block_place (Some l) end base = (layout_then (Some l) end base).place

-- what is written beside it: in how many pages the head stands; or the place of the area, where the
-- head tells that of the one not in use
abbrev pub mark_for : Option Layout → (end base : ℕ) → List ℕ
mark_for None end base = bytes_of 3 ((layout_then None end base).head / PAGE)
mark_for (Some l) end base = bytes_of 8 (layout_then (Some l) end base).place

-- and where
abbrev pub mark_place : Option Layout → ℕ
mark_place None = 5
mark_place (Some l) = place_told l.head (not l.second)

-- one byte switches over: the version, or the selector
abbrev pub switch_place : Option Layout → ℕ
switch_place None = 4
switch_place (Some l) = l.head

abbrev pub switch_byte : Option Layout → ℕ
switch_byte None = 2
switch_byte (Some l) = if l.second then 0 else 1
