use Rattle.mqb_history.proofs.Truthful as truthful
use Rattle.mqb_history.proofs.always_truthful.Goals as goal

pub returns : goal.returns
returns c = truthful.always_truthful
