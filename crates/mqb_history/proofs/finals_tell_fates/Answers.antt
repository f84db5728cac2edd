use Rattle.mqb_history.proofs.Finality as finality
use Rattle.mqb_history.proofs.finals_tell_fates.Goals as goal

pub returns : goal.returns
returns c = finality.finals_tell_fates
