use Rattle.mqb_setup.specs.lemmas.Again.{session_again}
use Rattle.mqb_setup.proofs.laws.session_is_read.Goals as goal

pub returns : goal.returns
returns c = λ r head rest fits e. session_again r head rest fits e
