use Rattle.mqb_history.proofs.Acknowledged as acknowledged
use Rattle.mqb_history.proofs.only_decided_is_acknowledged.Goals as goal

pub returns : goal.returns
returns c = acknowledged.always_acknowledged_truly
