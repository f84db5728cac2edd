use Rattle.mqb_model.proofs.Sent as law
use Rattle.mqb_model.proofs.laws.pumped_is_readable.Goals as goal

pub returns : goal.returns
returns c = law.pumped_is_readable
