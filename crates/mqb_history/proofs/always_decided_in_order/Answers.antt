use Rattle.mqb_history.proofs.Deciding as deciding
use Rattle.mqb_history.proofs.always_decided_in_order.Goals as goal

pub returns : goal.returns
returns c = deciding.always_decided_in_order
