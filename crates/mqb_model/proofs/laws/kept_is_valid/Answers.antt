use Rattle.mqb_model.proofs.Applied as law
use Rattle.mqb_model.proofs.laws.kept_is_valid.Goals as goal

pub returns : goal.returns
returns c = law.kept_is_valid
