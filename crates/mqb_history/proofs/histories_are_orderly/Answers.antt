use Rattle.mqb_history.proofs.Orderly as orderly
use Rattle.mqb_history.proofs.histories_are_orderly.Goals as goal

pub returns : goal.returns
returns c = orderly.histories_are_orderly
