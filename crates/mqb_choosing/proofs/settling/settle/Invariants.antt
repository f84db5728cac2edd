use Rattle.std.proofs.Common.{◌≡◌, drop}
use Rattle.mqb_session.specs.State as one_end
use Rattle.mqb_choosing.specs.Going.{known}
use Rattle.mqb_choosing.proofs.Settled.{settled_by}
use Rattle.mqb_choosing.proofs.settling.settle.Given as goal

abbrev pub invariant-loop-choice : goal.invariant-loop-choice
invariant-loop-choice l = record {
  left : (session : one_end.State) → settled_by (known session l.cursors l.owes) (drop l.choice-index l.choices.choices)
      ≡ settled_by (known session l.fn.cursors l.fn.owes) l.choices.choices;
}
