use Rattle.std.proofs.Common.{◌-◌}
use Rattle.mqb_records.proofs.Halved.{IsBetween}
use Rattle.mqb_records.proofs.offered.keeps.Given as goal

abbrev pub invariant-loop-low : goal.invariant-loop-low
invariant-loop-low l = IsBetween l.kept.items l.number l.low l.high

abbrev pub decreases-loop-low : goal.decreases-loop-low
decreases-loop-low l = l.high - l.low
