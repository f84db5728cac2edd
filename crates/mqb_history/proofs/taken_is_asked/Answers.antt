use Rattle.mqb_history.proofs.Causing as causing
use Rattle.mqb_history.proofs.taken_is_asked.Goals as goal

pub returns : goal.returns
returns c = causing.taken_is_asked
