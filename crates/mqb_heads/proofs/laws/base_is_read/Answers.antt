use Rattle.mqb_heads.specs.lemmas.HeadsAgain.{base_again}
use Rattle.mqb_heads.proofs.laws.base_is_read.Goals as goal

pub returns : goal.returns
returns c = base_again
