use Rattle.std.proofs.Common.{length, ◌∙◌, arith}
use Rattle.mqb_snapshot.specs.Spelled.{spelled_in, word}
use Rattle.mqb_snapshot.specs.Values.{IsIn}
use Rattle.mqb_snapshot.proofs.SoFar.{more, of_all}
use Rattle.mqb_snapshot.proofs.Walks.{put_more, put_all}
use Rattle.mqb_snapshot.proofs.tail.Tail.in_rows.Goals as goal

pub loop-row-preserved : goal.loop-row-preserved
loop-row-preserved c = record {
  put = put_more spelled_in c.args.rows.now c.loop-row.row-index c.u32.new.self.text c.loop-row.self.text c.row-item.result c.in_row.new.self.text c.loop-row.invariant.put c.loop-row-test.true c.row-item.is c.in_ok-in_row.ensures.added;
  front = c.in_ok-in_row.ensures.front ∙ c.loop-row.invariant.front;
  typed = more IsIn c.args.rows.now c.loop-row.row-index c.row-item.result c.loop-row.invariant.typed c.loop-row-test.true c.row-item.is c.in_ok-in_row.ensures.typed;
}

pub returns : goal.returns
returns c = record {
  added = put_all spelled_in c.args.rows.now c.loop-row.row-index c.args.self.now.text (word (length c.args.rows.now)) c.u32.new.self.text c.loop-row.self.text c.in_ok-u32.ensures.added c.loop-row.invariant.put (omega (arith, c.loop-row-test.false));
  front = c.loop-row.invariant.front;
  typed = of_all IsIn c.args.rows.now c.loop-row.row-index (omega (arith, c.loop-row-test.false)) c.loop-row.invariant.typed;
}
