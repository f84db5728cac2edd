use Rattle.std.proofs.Common.{arith}
use Rattle.mqb_read_back.proofs.Loops.{join_more}
use Rattle.mqb_read_back.proofs.parts.ReadParts.queues.Goals as goal

pub loop-preserved : goal.loop-preserved
loop-preserved c = record {
  joined = join_more c.queue.new.self c.queue.new.cursor c.loop.invariant.joined c.loop-test.true c.in_ok-queue.ensures.joined;
  queues = omega (arith, c.in_ok-queue.ensures.queues, c.loop.invariant.queues);
}

pub queue-requires : goal.queue-requires
queue-requires c = omega (arith, c.loop.invariant.queues, c.loop-test.true, c.in_ok-count.ensures.within)
