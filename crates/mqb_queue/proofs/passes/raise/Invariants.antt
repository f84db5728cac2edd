use Rattle.std.proofs.Common.{◌≡◌, length}
use Rattle.std.specs.List.{remove}
use Rattle.mqb_queue.proofs.Passed.{AreRaised}
use Rattle.mqb_queue.proofs.passes.raise.Given as goal

abbrev pub invariant-loop-k : goal.invariant-loop-k
invariant-loop-k l = record {
  raised : AreRaised l.k l.passes (remove l.messages l.at) l.messages;
  eight : length l.passes ≡ 8;
}
