use Rattle.std.proofs.Common.{◌∙◌, arith}
use Rattle.mqb_choosing.proofs.OwedRows.{grown_same}
use Rattle.mqb_choosing.proofs.rows.grow.Goals as goal

pub returns : goal.returns
returns c = let longer = c.loop.invariant.longer in let most = c.loop.invariant.most in let test = c.loop-test.false in
    c.loop.invariant.items ∙ grown_same c.args.len c.loop.counter c.args.owes.now.items (omega (arith, longer, most, test))
