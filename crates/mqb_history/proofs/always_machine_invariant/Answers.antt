use Rattle.mqb_history.proofs.Machine as machine
use Rattle.mqb_history.proofs.always_machine_invariant.Goals as goal

pub returns : goal.returns
returns c = machine.always_machine_invariant
