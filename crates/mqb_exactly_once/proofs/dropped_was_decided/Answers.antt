use Rattle.mqb_exactly_once.specs.Runs.{after}
use Rattle.mqb_exactly_once.proofs.Always.{always, dropped_is_decided}
use Rattle.mqb_exactly_once.proofs.dropped_was_decided.Goals as goal

pub returns : goal.returns
returns c = λ channel xs run. dropped_is_decided (after channel xs) (always channel xs run)
