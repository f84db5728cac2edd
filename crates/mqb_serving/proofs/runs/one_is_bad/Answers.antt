use Rattle.mqb_serving.proofs.Asking.{one_is_bad}
use Rattle.mqb_serving.proofs.runs.one_is_bad.Goals as goal

pub returns : goal.returns
returns c = one_is_bad
