-- A list with a gap.
use Rattle.std.specs.Prelude.{ℕ, ◌+◌, List}
use Rattle.std.specs.List.{remove_range}

-- the slots before a gap, and those behind it
abbrev pub around : {X : Type 0} → (front gap : ℕ) → List X → List X
around front gap slots = remove_range slots front (front + gap)
