use Rattle.mqb_exactly_once.specs.Runs.{after}
use Rattle.mqb_exactly_once.proofs.Always.{always, step_grows}
use Rattle.mqb_exactly_once.proofs.steps_grow.Goals as goal

pub returns : goal.returns
returns c = λ channel x xs run. step_grows (after channel xs) x (always channel xs run.1) run.0
