use Rattle.std.proofs.Common.{◌≡◌, ◌+◌, ◌*◌, ◌++◌, length, take}
use Rattle.mqb_packet.specs.Spelled.{units_of}
use Rattle.mqb_packet.proofs.owned.copy_units.Given as goal

-- the units so far, and those that are left
abbrev pub invariant-loop-rest : goal.invariant-loop-rest
invariant-loop-rest l = record {
  units : take l.len l.room ++ units_of l.rest ≡ units_of l.label;
  count : 2 * l.len + length l.rest ≡ length l.label;
}

abbrev pub decreases-loop-rest : goal.decreases-loop-rest
decreases-loop-rest l = length l.rest
