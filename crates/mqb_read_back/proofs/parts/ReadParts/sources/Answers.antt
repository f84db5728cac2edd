use Rattle.mqb_read_back.proofs.Loops.{join_more}
use Rattle.mqb_read_back.proofs.parts.ReadParts.sources.Goals as goal

pub loop-preserved : goal.loop-preserved
loop-preserved c = join_more c.source.new.self c.source.new.cursor c.loop.invariant c.loop-test.true c.in_ok-source.ensures
