use Rattle.mqb_heads.specs.lemmas.HeadsAgain.{tx_again}
use Rattle.mqb_heads.proofs.laws.tx_is_read.Goals as goal

pub returns : goal.returns
returns c = tx_again
