use Rattle.std.proofs.Common.{◌∙◌}
use Rattle.mqb_read_back.proofs.Loops.{join_more}
use Rattle.mqb_read_back.proofs.parts.ReadParts.waiting.Goals as goal

pub loop-preserved : goal.loop-preserved
loop-preserved c = record {
  joined = join_more c.plain.new.self c.plain.new.cursor c.loop.invariant.joined c.loop-test.true c.in_ok-plain.ensures.joined;
  peers = c.in_ok-plain.ensures.peers ∙ c.loop.invariant.peers;
}
