use Rattle.mqb_setup.specs.lemmas.Again.{internal_again}
use Rattle.mqb_setup.proofs.laws.internal_is_read.Goals as goal

pub returns : goal.returns
returns c = λ r part rest fits e. internal_again r part rest fits e
