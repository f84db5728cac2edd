use Rattle.std.specs.Prelude.{Bool, false, None}
use Rattle.mqb_outside.specs.Disk.{View}
use Rattle.mqb_disk.specs.declared.file_disk.FileDisk.{FileDisk}

-- what a disk in a file tells: its calls, its faults and how far it was read
abbrev pub file_view : FileDisk → View
file_view d = record {
  reads = λ c. ⊥;
  leaves = λ c. ⊥;
  moment = 0;
  since = λ t c. ⊥;
  keeps_calls = false;
  calls = d.calls;
  faults = d.faults;
  reached = d.reached;
  switch = record { arms = 0; restarts = 0; last_pick = None; last_left = None };
}

-- whether it only reads its file, as others may at the same time
abbrev pub is_shared : FileDisk → Bool
is_shared d = d.is_shared
