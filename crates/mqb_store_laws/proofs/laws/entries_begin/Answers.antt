use Rattle.mqb_store_laws.proofs.Joining as law
use Rattle.mqb_store_laws.proofs.laws.entries_begin.Goals as goal

pub returns : goal.returns
returns c = law.entries_begin
