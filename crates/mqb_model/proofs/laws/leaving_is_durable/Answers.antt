use Rattle.mqb_model.proofs.Ticking as law
use Rattle.mqb_model.proofs.laws.leaving_is_durable.Goals as goal

pub returns : goal.returns
returns c = law.leaving_is_durable
