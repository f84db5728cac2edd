use Rattle.mqb_history.proofs.Reasons as reasons
use Rattle.mqb_history.proofs.decisions_have_reasons.Goals as goal

pub returns : goal.returns
returns c = reasons.decisions_have_reasons
