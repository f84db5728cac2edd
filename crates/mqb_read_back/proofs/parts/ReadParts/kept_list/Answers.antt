use Rattle.std.proofs.Common.{◌∙◌}
use Rattle.mqb_read_back.proofs.Loops.{join_more}
use Rattle.mqb_read_back.proofs.parts.ReadParts.kept_list.Goals as goal

pub loop-preserved : goal.loop-preserved
loop-preserved c = record {
  joined = join_more c.kept.new.self c.kept.new.cursor c.loop.invariant.joined c.loop-test.true c.in_ok-kept.ensures.joined;
  rows = c.in_ok-kept.ensures.rows ∙ c.loop.invariant.rows;
}
