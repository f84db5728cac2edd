use Rattle.mqb_network.proofs.Written as written
use Rattle.mqb_network.proofs.laws.ledger_is_written.Goals as goal

pub returns : goal.returns
returns c = written.ledger_is_written
