use Rattle.std.proofs.Common.{◌≡◌, false, take}
use Rattle.std.specs.List.{list_any}
use Rattle.mqb_model.specs.records.Peer.{is_taken_by}
use Rattle.mqb_records.proofs.queues.any_takes.Given as goal

abbrev pub invariant-loop-k : goal.invariant-loop-k
invariant-loop-k l = list_any (is_taken_by l.plan) (take l.k l.queues.lists.queues) ≡ false
