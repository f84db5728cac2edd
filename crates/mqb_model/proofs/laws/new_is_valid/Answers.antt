use Rattle.mqb_model.proofs.Validity as law
use Rattle.mqb_model.proofs.laws.new_is_valid.Goals as goal

pub returns : goal.returns
returns c = law.new_is_valid
