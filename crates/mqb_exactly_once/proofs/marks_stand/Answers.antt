use Rattle.mqb_exactly_once.proofs.Always.{always}
use Rattle.mqb_exactly_once.proofs.marks_stand.Goals as goal

pub returns : goal.returns
returns c = λ channel xs run s. (always channel xs run).marks s
