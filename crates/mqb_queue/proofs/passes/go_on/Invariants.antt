use Rattle.std.proofs.Common.{◌≡◌, length}
use Rattle.mqb_queue.specs.Passes.{ArePassed}
use Rattle.mqb_queue.proofs.passes.go_on.Given as goal

abbrev pub invariant-loop-k : goal.invariant-loop-k
invariant-loop-k l = record {
  passed : ArePassed l.passes l.messages;
  eight : length l.passes ≡ 8;
}
