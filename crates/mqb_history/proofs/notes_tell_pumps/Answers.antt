use Rattle.mqb_history.proofs.Noting as noting
use Rattle.mqb_history.proofs.notes_tell_pumps.Goals as goal

pub returns : goal.returns
returns c = noting.notes_tell_pumps
