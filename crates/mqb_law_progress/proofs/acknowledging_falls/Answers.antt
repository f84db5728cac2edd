use Rattle.mqb_law_progress.proofs.Falling.{acknowledging_falls}
use Rattle.mqb_law_progress.proofs.acknowledging_falls.Goals as goal

pub returns : goal.returns
returns c = λ row k number inside over within. acknowledging_falls row k number inside over within
