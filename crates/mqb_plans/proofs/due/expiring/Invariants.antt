use Rattle.std.proofs.Common.{◌≡◌, ◌*◌, ◌≤◌, length, take}
use Rattle.std.specs.Prelude.{sum_by}
use Rattle.mqb_model.specs.rules.Timeouts.{expiring_in}
use Rattle.mqb_plans.proofs.due.expiring.Given as goal

abbrev pub invariant-loop-k : goal.invariant-loop-k
invariant-loop-k l = record {
  counted : l.count ≡ sum_by (expiring_in l.now) (take l.k l.contents.lists.outs);
  few : l.count ≤ l.k * 65535;
  end : l.k-end ≡ length l.contents.lists.outs;
  most : l.k-end ≤ 4294967295;
}
