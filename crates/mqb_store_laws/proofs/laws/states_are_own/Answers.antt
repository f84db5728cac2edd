use Rattle.mqb_store_laws.proofs.Basing as law
use Rattle.mqb_store_laws.proofs.laws.states_are_own.Goals as goal

pub returns : goal.returns
returns c = law.states_are_own c.records_keep_identities.ensures
