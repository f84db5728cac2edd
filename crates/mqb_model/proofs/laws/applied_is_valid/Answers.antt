use Rattle.mqb_model.proofs.Applied as law
use Rattle.mqb_model.proofs.laws.applied_is_valid.Goals as goal

pub returns : goal.returns
returns c = law.applied_is_valid
