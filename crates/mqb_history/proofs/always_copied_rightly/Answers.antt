use Rattle.mqb_history.proofs.Copies as copies
use Rattle.mqb_history.proofs.always_copied_rightly.Goals as goal

pub returns : goal.returns
returns c = copies.always_copied_rightly
