use Rattle.mqb_history.proofs.Expecting as expecting
use Rattle.mqb_history.proofs.fates_are_awaited.Goals as goal

pub returns : goal.returns
returns c = expecting.fates_are_awaited
