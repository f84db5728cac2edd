use Rattle.mqb_history.proofs.Telling as telling
use Rattle.mqb_history.proofs.always_told_commitments.Goals as goal

pub returns : goal.returns
returns c = telling.always_told_commitments
