use Rattle.mqb_history.proofs.Begun as begun
use Rattle.mqb_history.proofs.sequences_always_in_order.Goals as goal

pub returns : goal.returns
returns c = begun.always_begun_in_order
