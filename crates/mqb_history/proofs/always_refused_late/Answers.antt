use Rattle.mqb_history.proofs.Late as late
use Rattle.mqb_history.proofs.always_refused_late.Goals as goal

pub returns : goal.returns
returns c = late.always_refused_late
