use Rattle.mqb_moves.proofs.Downs.{down_refuses_all}
use Rattle.mqb_moves.proofs.laws.down_refuses_all.Goals as goal

pub returns : goal.returns
returns c = down_refuses_all
