use Rattle.mqb_model.proofs.Recording as law
use Rattle.mqb_model.proofs.laws.steps_are_durable.Goals as goal

pub returns : goal.returns
returns c = law.steps_are_durable
