use Rattle.std.proofs.Common.{arith}
use Rattle.mqb_trying.specs.Notes.{nothing_noted}
use Rattle.mqb_trying.specs.Trying.{try_all}
use Rattle.mqb_trying.proofs.Walked.{all_more}
use Rattle.mqb_trying.proofs.Walks.{front_read}
use Rattle.mqb_trying.proofs.trying.try_all.Goals as goal

pub loop-index-preserved : goal.loop-index-preserved
loop-index-preserved c =
    let s = c.args.contents.now.lists in
    let ops = c.args.ops.now in
    let i = c.loop-index.index in
    let one = c.in_ok-try_op.ensures.number in
    let before = c.loop-index.invariant.number in
    let longer = c.in_ok-try_op.ensures.ops in
    let many = c.loop-index.invariant.ops in
    record {
      left = all_more s c.args.now i c.loop-index.notes c.try_op.new.self (try_all s c.args.now 0 (nothing_noted s) ops) ops c.index-ops-index.result
          (front_read ops i c.index-ops-index.result c.loop-index-test.true c.index-ops-index.is) c.in_ok-try_op.ensures.ok c.loop-index.invariant.left;
      number = omega (arith, one, before);
      ops = omega (arith, longer, many);
    }
