use Rattle.mqb_serving.proofs.Asking.{one_is_cut_off}
use Rattle.mqb_serving.proofs.runs.one_is_cut_off.Goals as goal

pub returns : goal.returns
returns c = one_is_cut_off
