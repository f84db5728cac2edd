use Rattle.mqb_history.proofs.Begun as begun
use Rattle.mqb_history.proofs.rows_are_led.Goals as goal

pub returns : goal.returns
returns c = begun.rows_are_led
