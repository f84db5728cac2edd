use Rattle.mqb_history.proofs.AskedFor as asked
use Rattle.mqb_history.proofs.committed_is_asked.Goals as goal

pub returns : goal.returns
returns c = asked.committed_is_asked
