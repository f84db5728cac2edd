use Rattle.mqb_network.proofs.Written as written
use Rattle.mqb_network.proofs.laws.checkpoints_write_nothing.Goals as goal

pub returns : goal.returns
returns c = written.checkpoints_write_nothing
