use Rattle.std.proofs.Common.{◌≡◌, ◌≤◌, length, Err, arith, rules}
use Rattle.mqb_forms.proofs.Steps.{before_nothing, ops_more, ops_refused, ops_end}
use Rattle.mqb_forms.proofs.sends.ops_of.Goals as goal

pub loop-word-init : goal.loop-word-init
loop-word-init c = rw c.new-ops.ensures (before_nothing _)

pub loop-word-preserved : goal.loop-word-preserved
loop-word-preserved c = ops_more _ _ _ _ _ _ c.loop-word.invariant c.loop-word-test.true c.in_ok-add_op.ensures.0

pub returns-in_err-add_op : goal.returns-in_err-add_op
returns-in_err-add_op c =
    let refused = ops_refused _ _ _ _ _ c.in_err-add_op.field-0.0 c.loop-word.invariant c.loop-word-test.true c.in_err-add_op.ensures.1 in
    let is : c.from_residual.result ≡ Err c.in_err-add_op.field-0.0 = search rules in
    rw is (tt, refused)

pub returns : goal.returns
returns c =
    let end : length c.args.words.now ≤ c.loop-word.word-index = omega arith in
    (ops_end _ c.loop-word.word-index c.args.words.now c.loop-word.ops c.loop-word.invariant end, tt)
