use Rattle.std.proofs.Common.{take}
use Rattle.std.specs.List.{All}
use Rattle.mqb_queue.specs.Passes.{HasEnded}
use Rattle.mqb_queue.proofs.passes.gone_on.Given as goal

abbrev pub invariant-loop-index : goal.invariant-loop-index
invariant-loop-index l = record {
  ended : All (HasEnded l.k l.bound) (take l.index l.messages);
}
