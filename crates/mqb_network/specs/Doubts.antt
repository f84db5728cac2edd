-- Every choice of the records in doubt.
use Rattle.std.specs.List.{range_with_len}
use Rattle.std.specs.Prelude.{Bool, fold, if◌then◌else◌, is_none, length, ℕ}
use Rattle.mqb_model.specs.managers.Manager.{doubt_of}
use Rattle.mqb_network.specs.Courses.{Course, found_kept}
use Rattle.mqb_network.specs.Network.{manager_at}

-- a manager's record in doubt was kept or lost, where it has one
abbrev pub settled_at : (ℕ → Bool) → Course → ℕ → Course
settled_at kept c i = if is_none (doubt_of (manager_at c.network i).condition) then c
    else if kept i then found_kept i c
    else c

-- the course with each record in doubt applied, or left out
abbrev pub settled : (ℕ → Bool) → Course → Course
settled kept c = fold (settled_at kept) c (range_with_len 0 (length c.network.managers))
