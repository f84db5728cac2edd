use Rattle.mqb_serving.proofs.Pushing.{one_is_pushed}
use Rattle.mqb_serving.proofs.runs.one_is_pushed.Goals as goal

pub returns : goal.returns
returns c = one_is_pushed
