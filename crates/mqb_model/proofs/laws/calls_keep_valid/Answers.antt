use Rattle.mqb_model.proofs.Calls as law
use Rattle.mqb_model.proofs.laws.calls_keep_valid.Goals as goal

pub returns : goal.returns
returns c = law.calls_keep_valid
