use Rattle.mqb_queue.proofs.Passed.{one_further}
use Rattle.mqb_queue.proofs.passes.gone_on.Goals as goal

pub loop-index-preserved : goal.loop-index-preserved
loop-index-preserved c = record {
  ended = one_further c.args.k c.loop-index.bound c.in-Some.next c.loop-index.index c.at-message.result.now c.args.messages.now c.in-Some.ensures.grows
      c.loop-index.invariant.ended c.at-message.ensures c.in-Some.ensures.ended;
}
