use Rattle.mqb_exactly_once.proofs.Always.{always}
use Rattle.mqb_exactly_once.proofs.order_acks_are_true.Goals as goal

pub returns : goal.returns
returns c = λ channel xs run. (always channel xs run).order_acks
