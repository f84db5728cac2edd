use Rattle.std.specs.Prelude.{[], ◌≡◌, false}
use Rattle.std.specs.Option.{option_map}
use Rattle.mqb_outside.specs.Disk.{View}
use Rattle.mqb.specs.declared.no_disk.NoDisk.{NoDisk}

-- a disk that is not there has no bytes
abbrev pub no_disk_view : NoDisk → View
no_disk_view d = record {
  reads = λ c. c ≡ [];
  leaves = λ c. c ≡ [];
  moment = 0;
  since = λ t c. c ≡ [];
  keeps_calls = false;
  calls = d.calls;
  faults = d.faults;
  reached = d.reached;
  switch = record {
    arms = d.arms;
    restarts = d.restarts;
    last_pick = d.last_pick;
    last_left = option_map (λ pick. []) d.last_pick;
  };
}
