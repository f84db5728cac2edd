use Rattle.mqb_model.proofs.Standing as law
use Rattle.mqb_model.proofs.laws.unlinked_is_valid.Goals as goal

pub returns : goal.returns
returns c = law.unlinked_is_valid
