use Rattle.std.proofs.Common.{All, take}
use Rattle.mqb_model.specs.laws.Fitting.{IsDraftedOp}
use Rattle.mqb_choosing.proofs.drafts.ops_fit.Given as goal

abbrev pub invariant-loop-op : goal.invariant-loop-op
invariant-loop-op l = record {
  drafted : All IsDraftedOp (take l.op-index l.ops);
}
