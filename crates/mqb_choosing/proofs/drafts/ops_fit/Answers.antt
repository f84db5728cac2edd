use Rattle.std.proofs.Common.{All, arith, subst}
use Rattle.std.proofs.lemmas.List.{take_all}
use Rattle.mqb_model.specs.laws.Fitting.{IsDraftedOp}
use Rattle.mqb_choosing.proofs.Drafted.{all_taken}
use Rattle.mqb_choosing.proofs.drafts.ops_fit.Goals as goal

pub loop-op-preserved : goal.loop-op-preserved
loop-op-preserved c = record {
  drafted = all_taken IsDraftedOp c.args.ops.now c.loop-op.op-index c.op-item.result c.loop-op-test.true c.op-item.is c.loop-op.invariant.drafted c.op_fits.ensures;
}

pub returns : goal.returns
returns c = subst (All IsDraftedOp) (take_all c.loop-op.op-index c.args.ops.now (omega (arith, c.loop-op-test.false))) c.loop-op.invariant.drafted
