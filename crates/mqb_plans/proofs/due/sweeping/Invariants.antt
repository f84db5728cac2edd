use Rattle.std.proofs.Common.{◌≡◌, ◌*◌, ◌≤◌, length, take}
use Rattle.std.specs.Prelude.{sum_by}
use Rattle.mqb_model.specs.rules.Timeouts.{sweeping_in}
use Rattle.mqb_plans.proofs.due.sweeping.Given as goal

abbrev pub invariant-loop-k : goal.invariant-loop-k
invariant-loop-k l = record {
  counted : l.count ≡ sum_by (sweeping_in l.lane l.now) (take l.k l.contents.lists.places.queues);
  few : l.count ≤ l.k * 4294967295;
  end : l.k-end ≡ length l.contents.lists.places.queues;
  most : l.k-end ≤ 1024;
}
