use Rattle.mqb_serving.proofs.Never.{no_faults}
use Rattle.mqb_serving.proofs.ends.answers_are_no_faults.Goals as goal

pub returns : goal.returns
returns c = no_faults
