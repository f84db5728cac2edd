use Rattle.mqb_history.proofs.Readings as readings
use Rattle.mqb_history.proofs.replies_show_choices.Goals as goal

pub returns : goal.returns
returns c = readings.replies_show_choices c.refusals_change_nothing.ensures
