use Rattle.std.proofs.Common.{◌≡◌, ◌++◌, drop}
use Rattle.mqb_trying.specs.Trials.{shown_ops}
use Rattle.mqb_trying.proofs.trial.views_of.Given as goal

abbrev pub invariant-loop-op : goal.invariant-loop-op
invariant-loop-op l = record {
  views : l.views.items ++ shown_ops (drop l.op-index l.ops) ≡ shown_ops l.ops;
}
