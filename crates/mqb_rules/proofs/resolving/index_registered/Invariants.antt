use Rattle.std.proofs.Common.{◌≡◌, false, length, take}
use Rattle.std.specs.List.{All}
use Rattle.mqb_model.specs.state.Resolving.{is_registered}
use Rattle.mqb_rules.proofs.resolving.index_registered.Given as goal

abbrev pub invariant-loop-k : goal.invariant-loop-k
invariant-loop-k l = record {
  none : All (λ q. is_registered l.guid q ≡ false) (take l.k l.queues.lists.queues);
  end : l.k-end ≡ length l.queues.lists.queues;
}
