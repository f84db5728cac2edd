use Rattle.mqb_history.proofs.Due as due
use Rattle.mqb_history.proofs.always_expired_duly.Goals as goal

pub returns : goal.returns
returns c = due.always_expired_duly
