use Rattle.mqb_model.proofs.Linking as law
use Rattle.mqb_model.proofs.laws.linked_is_valid.Goals as goal

pub returns : goal.returns
returns c = law.linked_is_valid
