use Rattle.mqb_exactly_once.specs.Runs.{after}
use Rattle.mqb_exactly_once.proofs.Always.{always, is_exactly_once}
use Rattle.mqb_exactly_once.proofs.exactly_once.Goals as goal

pub returns : goal.returns
returns c = λ channel xs run. is_exactly_once (after channel xs) (always channel xs run)
