use Rattle.mqb_history.proofs.Telling as telling
use Rattle.mqb_history.proofs.lines_tell_decisions.Goals as goal

pub returns : goal.returns
returns c = telling.lines_tell_decisions
