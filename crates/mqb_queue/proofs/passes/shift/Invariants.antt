use Rattle.std.proofs.Common.{◌≡◌, ◌++◌, map, take, drop}
use Rattle.mqb_queue.specs.Passes.{shifted}
use Rattle.mqb_queue.proofs.passes.shift.Given as goal

abbrev pub invariant-loop-k : goal.invariant-loop-k
invariant-loop-k l = record {
  mapped : l.passes ≡ map (shifted l.at) (take l.k l.initial.passes) ++ drop l.k l.initial.passes;
}
