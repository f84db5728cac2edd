use Rattle.mqb_history.proofs.Expiring as expiring
use Rattle.mqb_history.proofs.expiries_have_reasons.Goals as goal

pub returns : goal.returns
returns c = expiring.expiries_have_reasons
