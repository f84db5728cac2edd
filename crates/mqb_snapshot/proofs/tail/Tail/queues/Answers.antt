use Rattle.std.proofs.Common.{◌∙◌, arith}
use Rattle.std.specs.Prelude.{All}
use Rattle.mqb_snapshot.specs.Spelled.{IsSized, spelled_queue}
use Rattle.mqb_snapshot.proofs.Carried.{all_there}
use Rattle.mqb_snapshot.specs.Values.{AreHeld}
use Rattle.mqb_snapshot.proofs.SoFar.{more_there, of_all}
use Rattle.mqb_snapshot.proofs.Walks.{put_there, put_done}
use Rattle.mqb_snapshot.proofs.tail.Tail.queues.Goals as goal

pub queue-requires-clause-queue : goal.queue-requires-clause-queue
queue-requires-clause-queue c =
    all_there (λ q. All IsSized q.lists.durable × All IsSized q.journal.durable) c.args.queues.now.lists.queues c.loop-k.k c.requires (omega (arith, c.loop-k-test.true, c.count-k-end.ensures.count))

pub loop-k-preserved : goal.loop-k-preserved
loop-k-preserved c = record {
  put = put_there spelled_queue c.args.queues.now.lists.queues c.loop-k.k c.args.self.now.text c.loop-k.self.text c.queue.new.self.text c.loop-k.invariant.put c.in_ok-queue.ensures.added;
  front = c.in_ok-queue.ensures.front ∙ c.loop-k.invariant.front;
  typed = more_there (λ q. AreHeld q.lists.durable × AreHeld q.journal.durable) c.args.queues.now.lists.queues c.loop-k.k c.loop-k.invariant.typed c.in_ok-queue.ensures.typed;
}

pub returns : goal.returns
returns c = record {
  added = put_done spelled_queue c.args.queues.now.lists.queues c.loop-k.k c.args.self.now.text c.loop-k.self.text c.loop-k.invariant.put (omega (arith, c.loop-k-test.false, c.count-k-end.ensures.count));
  front = c.loop-k.invariant.front;
  typed = of_all (λ q. AreHeld q.lists.durable × AreHeld q.journal.durable) c.args.queues.now.lists.queues c.loop-k.k (omega (arith, c.loop-k-test.false, c.count-k-end.ensures.count)) c.loop-k.invariant.typed;
}
