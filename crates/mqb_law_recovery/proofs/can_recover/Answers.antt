use Rattle.mqb_law_recovery.proofs.Recovering.{recovers}
use Rattle.mqb_law_recovery.proofs.can_recover.Goals as goal

pub returns : goal.returns
returns c = λ channel xs now judge run judged. recovers channel xs now judge run judged
