use Rattle.mqb_moves.proofs.Never.{definitions_do_not_fail}
use Rattle.mqb_moves.proofs.laws.definitions_do_not_fail.Goals as goal

pub returns : goal.returns
returns c = definitions_do_not_fail
