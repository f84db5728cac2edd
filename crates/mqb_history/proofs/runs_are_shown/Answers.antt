use Rattle.mqb_history.proofs.Readings as readings
use Rattle.mqb_history.proofs.runs_are_shown.Goals as goal

pub returns : goal.returns
returns c = readings.runs_are_shown c.refusals_change_nothing.ensures
