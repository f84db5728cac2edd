use Rattle.mqb_history.proofs.Waiting as waiting
use Rattle.mqb_history.proofs.always_waiting.Goals as goal

pub returns : goal.returns
returns c = waiting.always_waiting
