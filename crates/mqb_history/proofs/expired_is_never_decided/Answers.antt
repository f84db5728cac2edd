use Rattle.mqb_history.proofs.Undecided as undecided
use Rattle.mqb_history.proofs.expired_is_never_decided.Goals as goal

pub returns : goal.returns
returns c = undecided.always_undecided
