use Rattle.mqb_history.proofs.Numbering as numbering
use Rattle.mqb_history.proofs.always_committed_in_order.Goals as goal

pub returns : goal.returns
returns c = numbering.always_committed_in_order
