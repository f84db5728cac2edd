use Rattle.mqb_heads.specs.lemmas.UserAgain.{user_again}
use Rattle.mqb_heads.proofs.laws.user_is_read.Goals as goal

pub returns : goal.returns
returns c = user_again
