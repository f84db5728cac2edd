use Rattle.mqb_exactly_once.proofs.Always.{always}
use Rattle.mqb_exactly_once.proofs.transfers_are_truthful.Goals as goal

pub returns : goal.returns
returns c = λ channel xs run. (always channel xs run).truthful
