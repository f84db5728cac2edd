use Rattle.mqb_history.proofs.Led as led
use Rattle.mqb_history.proofs.always_decided_where_led.Goals as goal

pub returns : goal.returns
returns c = led.always_decided_where_led
