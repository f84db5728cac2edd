use Rattle.mqb_model.proofs.Calls as law
use Rattle.mqb_model.proofs.laws.refusals_change_nothing.Goals as goal

pub returns : goal.returns
returns c = law.refusals_change_nothing
