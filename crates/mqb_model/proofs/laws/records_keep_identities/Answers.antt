use Rattle.mqb_model.proofs.Identities as law
use Rattle.mqb_model.proofs.laws.records_keep_identities.Goals as goal

pub returns : goal.returns
returns c = law.records_keep_identities
