use Rattle.mqb_snapshot.proofs.StateRead as law
use Rattle.mqb_snapshot.proofs.read_laws.read_states_are_durable.Goals as goal

pub returns : goal.returns
returns c = law.read_states_are_durable
