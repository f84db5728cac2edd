use Rattle.mqb_store_laws.proofs.Basing as law
use Rattle.mqb_store_laws.proofs.laws.bases_begin.Goals as goal

pub returns : goal.returns
returns c = law.bases_begin
