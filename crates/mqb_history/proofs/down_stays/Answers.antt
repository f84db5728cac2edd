use Rattle.mqb_history.proofs.Stopping as stopping
use Rattle.mqb_history.proofs.down_stays.Goals as goal

pub returns : goal.returns
returns c = stopping.down_stays
