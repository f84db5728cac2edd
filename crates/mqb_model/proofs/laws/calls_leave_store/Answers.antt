use Rattle.mqb_model.proofs.Calls as law
use Rattle.mqb_model.proofs.laws.calls_leave_store.Goals as goal

pub returns : goal.returns
returns c = law.calls_leave_store
