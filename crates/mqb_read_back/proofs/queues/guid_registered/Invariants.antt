use Rattle.std.proofs.Common.{◌≡◌, false, take}
use Rattle.std.specs.List.{list_any}
use Rattle.mqb_model.specs.state.Resolving.{is_registered}
use Rattle.mqb_read_back.proofs.queues.guid_registered.Given as goal

abbrev pub invariant-loop-k : goal.invariant-loop-k
invariant-loop-k l = list_any (is_registered l.guid) (take l.k l.queues.lists.queues) ≡ false
