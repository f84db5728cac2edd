use Rattle.std.specs.Prelude.{◌≡◌, ◌⊎◌, ℕ, ◌<◌, ◌≤◌, List, false, vec_len}
use Rattle.mqb_outside.specs.Disk.{View}
use Rattle.mqb_outside.specs.declared.power.Pick.{Pick}
use Rattle.mqb_disk.specs.Changes.{Left}
use Rattle.mqb_disk.specs.Extent.{Extent, standing}
use Rattle.mqb_disk.specs.Picks.{left_by}
use Rattle.mqb_disk.specs.Turns.{Power}
use Rattle.mqb_disk.specs.Switches.{power_in}
use Rattle.mqb_disk.specs.declared.change.Change.{Change}
use Rattle.mqb_disk.specs.declared.memory_disk.TheConstants.{MAX_CHANGES}
use Rattle.mqb_disk.specs.declared.memory_disk.MemoryDisk.{MemoryDisk}

-- what a disk in memory tells: its images now, and none of past moments
abbrev pub memory_view : MemoryDisk → View
memory_view d = record {
  reads = λ c. c ≡ d.current.contents;
  leaves = λ c. (c ≡ d.current.contents) ⊎ Left d.changes.items d.safe.contents c;
  moment = 0;
  since = λ t c. ⊥;
  keeps_calls = false;
  calls = d.switch.calls;
  faults = d.switch.faults;
  reached = d.reached;
  switch = record {
    arms = d.switch.arms;
    restarts = d.switch.restarts;
    last_pick = d.switch.last_pick;
    last_left = d.switch.last_left.contents;
  };
}

-- what it keeps
pub record Stored : Type 0 where
  pub current : Extent
  pub safe : Extent
  pub changes : List Change

abbrev pub stored : MemoryDisk → Stored
stored d = record { current = d.current; safe = d.safe; changes = d.changes.items }

-- what was done since the last sync, the first of it first
abbrev pub changes_of : MemoryDisk → List Change
changes_of d = d.changes.items

-- what a read gives
abbrev pub contents : MemoryDisk → List ℕ
contents d = d.current.contents

-- how its power switch stands
abbrev pub power_of : MemoryDisk → Power
power_of d = power_in d.switch

-- what a restart by this pick leaves of a disk in memory
abbrev pub left_after : Pick → MemoryDisk → List ℕ
left_after pick d = left_by pick (standing d.current) d.changes.items d.safe.contents

-- how many bytes it can hold
abbrev pub room : MemoryDisk → ℕ
room d = d.current.room

-- how many ranges it has kept since the last sync
abbrev pub noted : MemoryDisk → ℕ
noted d = vec_len d.changes

-- it keeps one range more, which ends here
pub record Takes (d : MemoryDisk) (end : ℕ) : Type 0 where
  pub room : end ≤ room d
  pub few : noted d < MAX_CHANGES
