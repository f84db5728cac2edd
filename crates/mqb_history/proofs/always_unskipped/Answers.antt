use Rattle.mqb_history.proofs.Skipping as skipping
use Rattle.mqb_history.proofs.always_unskipped.Goals as goal

pub returns : goal.returns
returns c = skipping.always_unskipped
