use Rattle.std.proofs.Common.{◌≡◌, false, take}
use Rattle.std.specs.List.{All}
use Rattle.mqb_model.specs.rules.Timeouts.{cannot_be_received}
use Rattle.mqb_timeouts.proofs.sweeps.index_due_from.Given as goal

abbrev pub invariant-loop-index : goal.invariant-loop-index
invariant-loop-index l = record {
  none : All (λ m. cannot_be_received l.now m ≡ false) (take l.index l.messages);
}
