use Rattle.mqb_model.proofs.Durable as law
use Rattle.mqb_model.proofs.laws.durable_is_valid.Goals as goal

pub returns : goal.returns
returns c = law.durable_is_valid
