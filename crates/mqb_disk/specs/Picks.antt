use Rattle.std.specs.Prelude.{ℕ, ◌+◌, ◌/◌, ◌≤◌, List, [], ◌∷◌, ◌++◌, length, take, drop, replicate}
use Rattle.std.specs.Prelude.{Bool, true, false, nat_le, if◌then◌else◌}
use Rattle.mqb_outside.specs.declared.power.Pick.{Pick}
use Rattle.mqb_outside.specs.declared.power.Pick.TheVariants.{Old, New, Half, Ones}
use Rattle.mqb_disk.specs.declared.change.Change.{Change}
use Rattle.mqb_disk.specs.declared.change.Change.TheVariants.{Wrote, Cut}

-- the bytes with which a pick begins a range of n bytes that was written, where written has the
-- bytes that stand there now; the rest of the range is old
abbrev pub begun : Pick → ℕ → ℕ → List ℕ → List ℕ
begun Old at n written = []
begun New at n written = take n (drop at written)
begun Half at n written = take (n / 2) (drop at written)
begun Ones at n written = replicate n 1

-- whether a cut stands
abbrev pub stands : Pick → Bool
stands Old = false
stands New = true
stands Half = false
stands Ones = true

-- these bytes at this place, where the contents reach it; a range that begins
-- past their end is absent
abbrev pub reached : ℕ → List ℕ → List ℕ → List ℕ
reached at bytes c =
    if nat_le at (length c) then take at c ++ bytes ++ drop (at + length bytes) c else c

-- what a pick leaves of one change
abbrev pub left_of : Pick → List ℕ → Change → List ℕ → List ℕ
left_of pick written (Wrote at n) c = reached at (begun pick at n written) c
left_of pick written (Cut n) c = if stands pick then take n c else c

-- what a pick leaves of these changes, the first of them first, over contents that were safe
abbrev pub left_by : Pick → List ℕ → List Change → List ℕ → List ℕ
left_by pick written [] c = c
left_by pick written (change ∷ changes) c =
    left_by pick written changes (left_of pick written change c)

-- the end of the range that a change wrote
abbrev pub end_of : Change → ℕ
end_of (Wrote at n) = at + n
end_of (Cut n) = 0

abbrev pub lies_within : ℕ → Change → Type 0
lies_within room change = end_of change ≤ room
