use Rattle.mqb_model.proofs.Stepwise as law
use Rattle.mqb_model.proofs.laws.stepwise_is_effect.Goals as goal

pub returns : goal.returns
returns c = law.stepwise_is_effect
