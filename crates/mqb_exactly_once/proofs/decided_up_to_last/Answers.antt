use Rattle.mqb_exactly_once.specs.Runs.{after}
use Rattle.mqb_exactly_once.proofs.Always.{always, decided_up_to_last}
use Rattle.mqb_exactly_once.proofs.decided_up_to_last.Goals as goal

pub returns : goal.returns
returns c = λ channel xs run. decided_up_to_last (after channel xs) (always channel xs run)
