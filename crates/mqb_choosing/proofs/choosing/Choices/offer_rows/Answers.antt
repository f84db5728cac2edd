use Rattle.std.proofs.Common.{get_or, arith}
use Rattle.mqb_choosing.specs.Going.{waiting_in}
use Rattle.mqb_choosing.proofs.Left.{got_is}
use Rattle.mqb_choosing.proofs.Waiting.{rows_done, rows_offered}
use Rattle.mqb_choosing.proofs.choosing.Choices.offer_rows.Goals as goal

pub loop-row-preserved : goal.loop-row-preserved
loop-row-preserved c = record {
  left = rows_offered c.args.contents.now.lists c.args.self.now c.loop-row.self c.offer_row.new.self c.args.cursors.now c.args.peer c.loop-row.row
      (get_or c.args.cursors.now c.loop-row.row 0) (waiting_in c.args.contents.now.lists c.args.cursors.now c.args.peer)
      (got_is c.args.cursors.now c.loop-row.row 0 (omega (arith, c.loop-row-test.true))) c.in_ok-offer_row.ensures c.loop-row.invariant.left;
}

pub returns-after-loop-row : goal.returns-after-loop-row
returns-after-loop-row c = rows_done c.args.contents.now.lists c.args.self.now c.loop-row.self c.args.cursors.now c.args.peer c.loop-row.row
    (waiting_in c.args.contents.now.lists c.args.cursors.now c.args.peer) c.loop-row-test.false c.loop-row.invariant.left
