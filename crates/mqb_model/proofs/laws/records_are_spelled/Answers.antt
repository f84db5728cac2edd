use Rattle.mqb_model.proofs.Calls as law
use Rattle.mqb_model.proofs.laws.records_are_spelled.Goals as goal

pub returns : goal.returns
returns c = law.records_are_spelled
