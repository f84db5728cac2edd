use Rattle.mqb_store_laws.proofs.Joining as law
use Rattle.mqb_store_laws.proofs.laws.records_join.Goals as goal

pub returns : goal.returns
returns c = law.records_join c.durable_is_applied.ensures c.durable_is_fitted.ensures
