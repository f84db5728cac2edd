use Rattle.mqb_moves.proofs.Counted.{counted}
use Rattle.mqb_moves.proofs.laws.pumps_are_counted.Goals as goal

pub returns : goal.returns
returns c = counted
