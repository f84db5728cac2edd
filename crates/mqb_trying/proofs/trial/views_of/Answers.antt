use Rattle.mqb_trying.specs.Trials.{shown_ops}
use Rattle.mqb_trying.proofs.Walked.{views_more}
use Rattle.mqb_trying.proofs.Walks.{front_read}
use Rattle.mqb_trying.proofs.trial.views_of.Goals as goal

pub loop-op-preserved : goal.loop-op-preserved
loop-op-preserved c = record {
  views = views_more c.loop-op.op-index c.loop-op.views.items c.push.new.self.items c.view_of.result c.op-item.result c.args.ops.now (shown_ops c.args.ops.now)
      (front_read c.args.ops.now c.loop-op.op-index c.op-item.result c.loop-op-test.true c.op-item.is) c.view_of.ensures c.in_ok-push.ensures.items c.loop-op.invariant.views;
}
