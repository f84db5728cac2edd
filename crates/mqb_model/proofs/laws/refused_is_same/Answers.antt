use Rattle.mqb_model.proofs.Standing as law
use Rattle.mqb_model.proofs.laws.refused_is_same.Goals as goal

pub returns : goal.returns
returns c = law.refused_is_same
