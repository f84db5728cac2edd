use Rattle.mqb_read_back.proofs.Loops.{join_more}
use Rattle.mqb_read_back.proofs.parts.ReadParts.rows.Goals as goal

pub loop-preserved : goal.loop-preserved
loop-preserved c = join_more c.row.new.self c.row.new.cursor c.loop.invariant c.loop-test.true c.in_ok-row.ensures
