use Rattle.mqb_heads.specs.lemmas.PropsAgain.{props_again}
use Rattle.mqb_heads.proofs.laws.props_is_read.Goals as goal

pub returns : goal.returns
returns c = props_again
