use Rattle.std.specs.Prelude.{ℕ, ◌+◌, ◌*◌, Bool, ◌==◌, if◌then◌else◌, List, [], ◌∷◌, ◌++◌, length}
use Rattle.std.specs.Prelude.{take, drop, slice_index}
use Rattle.mqb_fields.specs.Guids.{swapped}
use Rattle.mqb_fields.specs.Reading.{number_of}
use Rattle.mqb_fields.specs.Writing.{bytes_of}
use Rattle.mqb_layout.specs.declared.limits.TheConstants.{PAGE}

-- `MQBJ`
abbrev pub MAGIC : List ℕ
MAGIC = 77 ∷ 81 ∷ 66 ∷ 74 ∷ []

-- the header of a store that is formatted: of version 1, and with the GUID in wire form
abbrev pub header : List ℕ → List ℕ
header guid = MAGIC ++ 1 ∷ 0 ∷ 0 ∷ 0 ∷ swapped guid

-- so many bytes of an image, from a place on
abbrev pub part : ℕ → ℕ → List ℕ → List ℕ
part at size image = take size (drop at image)

-- where the head of a store of version 2 stands, which three bytes tell in pages
abbrev pub head_of : List ℕ → ℕ
head_of image = PAGE * number_of 3 (drop 5 image)

-- where a head tells the place of an area: of the second, or of the first
abbrev pub place_told : ℕ → Bool → ℕ
place_told head second = head + (if second then 9 else 1)

-- the second area is in use where the selector is 1, and else the first
abbrev pub uses_second : List ℕ → Bool
uses_second image = slice_index image (head_of image) == 1

-- where the area in use stands
abbrev pub place_of : List ℕ → ℕ
place_of image = number_of 8 (drop (place_told (head_of image) (uses_second image)) image)

-- An area: how long what follows is, how many records are before it, and the base.
abbrev pub area : ℕ → List ℕ → List ℕ
area count base = bytes_of 4 (8 + length base) ++ bytes_of 8 count ++ base
