use Rattle.std.proofs.Common.{◌∙◌}
use Rattle.mqb_read_back.proofs.Loops.{join_more}
use Rattle.mqb_read_back.proofs.parts.ReadParts.place.Goals as goal

pub loop-preserved : goal.loop-preserved
loop-preserved c = record {
  joined = join_more c.placed.new.self c.placed.new.cursor c.loop.invariant.joined c.loop-test.true c.in_ok-placed.ensures.joined;
  queues = c.in_ok-placed.ensures.queues ∙ c.loop.invariant.queues;
}
