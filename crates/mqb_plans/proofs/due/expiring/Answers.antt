use Rattle.std.proofs.Common.{arith}
use Rattle.mqb_model.specs.rules.Timeouts.{expiring_in}
use Rattle.mqb_timeouts.proofs.Appended.{sum_step}
use Rattle.mqb_plans.proofs.Counts.{few_expire}
use Rattle.mqb_plans.proofs.due.expiring.Goals as goal

pub loop-k-preserved : goal.loop-k-preserved
loop-k-preserved c =
    let s = c.args.contents.now.lists in
    let step = sum_step (expiring_in c.args.now) s.outs c.loop-k.k in
    let few = few_expire c.args.now s c.loop-k.k c.requires in
    record {
      counted = omega (arith, step, c.count_expiring.ensures, c.loop-k.invariant.counted);
      few = omega (arith, few, c.loop-k.invariant.few, c.count_expiring.ensures);
      end = c.loop-k.invariant.end;
      most = c.loop-k.invariant.most;
    }
