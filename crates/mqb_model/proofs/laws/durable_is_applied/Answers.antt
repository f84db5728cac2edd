use Rattle.mqb_model.proofs.Applying as law
use Rattle.mqb_model.proofs.laws.durable_is_applied.Goals as goal

pub returns : goal.returns
returns c = law.durable_is_applied
