use Rattle.std.proofs.Common.{length, ◌∙◌, arith}
use Rattle.mqb_snapshot.specs.Spelled.{spelled_plan, word}
use Rattle.mqb_snapshot.specs.Values.{IsPlan}
use Rattle.mqb_snapshot.proofs.SoFar.{more_seen, of_all}
use Rattle.mqb_snapshot.proofs.Walks.{put_seen, put_all}
use Rattle.mqb_snapshot.proofs.tail.Tail.plans.Goals as goal

pub loop-k-preserved : goal.loop-k-preserved
loop-k-preserved c = record {
  put = put_seen (λ q. q.plan) spelled_plan c.args.queues.now.lists.queues c.loop-k.k c.u32.new.self.text c.loop-k.self.text c.plan.result.now c.queue_plan.new.self.text c.loop-k.invariant.put c.plan.ensures c.in_ok-queue_plan.ensures.added;
  front = c.in_ok-queue_plan.ensures.front ∙ c.loop-k.invariant.front;
  typed = more_seen (λ q. q.plan) IsPlan c.args.queues.now.lists.queues c.loop-k.k c.plan.result.now c.loop-k.invariant.typed c.plan.ensures c.in_ok-queue_plan.ensures.typed;
}

pub returns : goal.returns
returns c = record {
  added = put_all (λ q. spelled_plan q.plan) c.args.queues.now.lists.queues c.loop-k.k c.args.self.now.text (word (length c.args.queues.now.lists.queues)) c.u32.new.self.text c.loop-k.self.text
      (rw c.count-count.ensures.count at c.in_ok-u32.ensures.added) c.loop-k.invariant.put (omega (arith, c.loop-k-test.false, c.count-count.ensures.count));
  front = c.loop-k.invariant.front;
  typed = of_all (λ q. IsPlan q.plan) c.args.queues.now.lists.queues c.loop-k.k (omega (arith, c.loop-k-test.false, c.count-count.ensures.count)) c.loop-k.invariant.typed;
}
