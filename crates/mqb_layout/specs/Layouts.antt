-- How a store lies, and how it lies after a checkpoint.
use Rattle.std.specs.Prelude.{ℕ, ◌+◌, ◌*◌, ◌/◌, ◌≤◌, false, List, not, nat_le, if◌then◌else◌}
use Rattle.std.specs.Prelude.{Option, Some, None}
use Rattle.mqb_layout.specs.declared.layout.Layout.{Layout}
use Rattle.mqb_layout.specs.declared.limits.TheConstants.{HEADER, PAGE, HEAD, AREA}
use Rattle.mqb_layout.specs.Store.{head_of, place_of, uses_second}

-- how an image lies that is of version 2
abbrev pub layout_of : List ℕ → Layout
layout_of image =
    record { head = head_of image; place = place_of image; second = uses_second image }

-- the head stands behind the header, the area in use behind the head, and the gate behind the area
pub record IsLaidOut (l : Layout) (end : ℕ) : Type 0 where
  pub low : PAGE ≤ l.head
  pub behind : l.head + HEAD ≤ l.place
  pub within : l.place + AREA ≤ end

abbrev pub IsWithinStore : Option Layout → ℕ → Type 0
IsWithinStore None end = HEADER ≤ end
IsWithinStore (Some l) end = IsLaidOut l end

-- an area with its first gate, for a base of so many bytes
abbrev pub area_size : ℕ → ℕ
area_size base = AREA + base + 1

-- where the head of a store is written that has none: the page behind its closed gate
abbrev pub head_behind : ℕ → ℕ
head_behind end = PAGE * ((end + PAGE) / PAGE)

-- where the next area is written: behind the head where it has room there, and else
-- behind the closed gate
abbrev pub place_then : Layout → (end size : ℕ) → ℕ
place_then l end size = if nat_le (l.head + HEAD + size) l.place then l.head + HEAD else end + 1

-- how a store lies after a base of so many bytes
abbrev pub layout_then : Option Layout → (end base : ℕ) → Layout
layout_then None end base =
    record { head = head_behind end; place = head_behind end + HEAD; second = false }
layout_then (Some l) end base =
    record { head = l.head; place = place_then l end (area_size base); second = not l.second }
