use Rattle.mqb_history.proofs.Acknowledged as acknowledged
use Rattle.mqb_history.proofs.acknowledgements_are_true.Goals as goal

pub returns : goal.returns
returns c = acknowledged.always_acknowledging_truly
