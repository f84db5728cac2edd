use Rattle.mqb_history.proofs.Acknowledged as acknowledged
use Rattle.mqb_history.proofs.always_waits_until_decided.Goals as goal

pub returns : goal.returns
returns c = acknowledged.always_waiting_until_decided
