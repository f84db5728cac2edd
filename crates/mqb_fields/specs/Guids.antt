use Rattle.std.specs.Prelude.{ℕ, List, [], ◌∷◌, map, slice_index}

-- Where each byte of a GUID stands in the other of its two orders, text and wire: the first four
-- bytes are reversed, and the next two, and the next two.
abbrev pub places : List ℕ
places = 3 ∷ 2 ∷ 1 ∷ 0 ∷ 5 ∷ 4 ∷ 7 ∷ 6 ∷ 8 ∷ 9 ∷ 10 ∷ 11 ∷ 12 ∷ 13 ∷ 14 ∷ 15 ∷ []

-- a GUID in its other order
abbrev pub swapped : List ℕ → List ℕ
swapped guid = map (slice_index guid) places
