use Rattle.std.proofs.Common.{◌≡◌, Err, rules}
use Rattle.mqb_picture.proofs.Drawing.{drawn_refused}
use Rattle.mqb_picture.proofs.reading.read_lines.Goals as goal

pub returns-in_err-answered-clause-err : goal.returns-in_err-answered-clause-err
returns-in_err-answered-clause-err c =
    let refused = drawn_refused _ c.loop-line.number c.loop-line.line-index c.loop-line.answered c.args.script.now c.args.replies.now _ _
    c.in_err-answered.field-0.0 c.loop-line.invariant.read c.loop-line-test.true c.in_err-answered.ensures.err in
    let is : c.from_residual.result ≡ Err c.in_err-answered.field-0.0 = search rules in
    rw is refused
