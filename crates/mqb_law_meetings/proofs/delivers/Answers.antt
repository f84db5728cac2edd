use Rattle.mqb_law_meetings.proofs.Delivering as delivering
use Rattle.mqb_law_meetings.proofs.delivers.Goals as goal

pub returns : goal.returns
returns c = delivering.delivers c.recovers.ensures c.always_waits_until_decided.ensures c.rows_are_led.ensures
