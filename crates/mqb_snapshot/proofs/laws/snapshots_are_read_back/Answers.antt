use Rattle.mqb_snapshot.proofs.StateAgain as law
use Rattle.mqb_snapshot.proofs.laws.snapshots_are_read_back.Goals as goal

pub returns : goal.returns
returns c = law.snapshots_are_read_back
