use Rattle.mqb_model.proofs.Meeting as law
use Rattle.mqb_model.proofs.laws.meets_durably.Goals as goal

pub returns : goal.returns
returns c = law.meets_same
