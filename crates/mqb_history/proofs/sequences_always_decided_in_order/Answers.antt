use Rattle.mqb_history.proofs.Across as across
use Rattle.mqb_history.proofs.sequences_always_decided_in_order.Goals as goal

pub returns : goal.returns
returns c = across.always_decided_across
