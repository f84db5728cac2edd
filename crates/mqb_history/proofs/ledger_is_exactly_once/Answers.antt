use Rattle.mqb_history.proofs.Exactly as ledger
use Rattle.mqb_history.proofs.ledger_is_exactly_once.Goals as goal

pub returns : goal.returns
returns c = ledger.ledger_is_exactly_once
