-- Which incoming rows owe an acknowledgement.
use Rattle.std.specs.Prelude.{◌+◌, Bool, List, None, Option, Some, false, slice_set, true, ℕ}
use Rattle.mqb_model.specs.Lists.{grown}

-- the row at an index owes besides, where there is one
abbrev pub marked : Option ℕ → List Bool → List Bool
marked None owes = owes
marked (Some row) owes = slice_set (grown false (row + 1) owes) row true
