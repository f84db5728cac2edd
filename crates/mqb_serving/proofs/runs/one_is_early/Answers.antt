use Rattle.mqb_serving.proofs.Asking.{one_is_early}
use Rattle.mqb_serving.proofs.runs.one_is_early.Goals as goal

pub returns : goal.returns
returns c = one_is_early
