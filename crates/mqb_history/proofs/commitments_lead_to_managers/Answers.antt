use Rattle.mqb_history.proofs.Leading as leading
use Rattle.mqb_history.proofs.commitments_lead_to_managers.Goals as goal

pub returns : goal.returns
returns c = leading.commitments_lead_to_managers c.ledger_is_written.ensures
