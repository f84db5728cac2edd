use Rattle.mqb_law_meetings.proofs.Delivering as delivering
use Rattle.mqb_law_meetings.proofs.all_deliver.Goals as goal

pub returns : goal.returns
returns c = delivering.all_deliver c.all_recover.ensures c.always_waits_until_decided.ensures c.rows_are_led.ensures
