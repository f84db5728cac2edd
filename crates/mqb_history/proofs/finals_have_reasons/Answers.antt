use Rattle.mqb_history.proofs.Finals as finals
use Rattle.mqb_history.proofs.finals_have_reasons.Goals as goal

pub returns : goal.returns
returns c = finals.finals_have_reasons
