use Rattle.std.proofs.Common.{arith}
use Rattle.mqb_model.specs.rules.Timeouts.{lapsing_in}
use Rattle.mqb_timeouts.proofs.Appended.{sum_step}
use Rattle.mqb_plans.proofs.due.lapsing.Goals as goal

pub loop-k-preserved : goal.loop-k-preserved
loop-k-preserved c =
    let step = sum_step (lapsing_in c.args.lane c.args.now) c.args.contents.now.lists.plain c.loop-k.k in
    record {
      counted = omega (arith, step, c.count_lapsing.ensures, c.loop-k.invariant.counted);
      few = omega (arith, c.loop-k.invariant.few);
      end = c.loop-k.invariant.end;
      most = c.loop-k.invariant.most;
    }
