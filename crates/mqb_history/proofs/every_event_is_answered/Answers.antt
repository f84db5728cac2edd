use Rattle.mqb_history.proofs.EveryEvent as every_event
use Rattle.mqb_history.proofs.every_event_is_answered.Goals as goal

pub returns : goal.returns
returns c = every_event.every_event_is_answered
