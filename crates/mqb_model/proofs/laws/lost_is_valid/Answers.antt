use Rattle.mqb_model.proofs.Validity as law
use Rattle.mqb_model.proofs.laws.lost_is_valid.Goals as goal

pub returns : goal.returns
returns c = law.lost_is_valid
