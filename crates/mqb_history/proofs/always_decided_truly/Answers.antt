use Rattle.mqb_history.proofs.Carrying as carrying
use Rattle.mqb_history.proofs.always_decided_truly.Goals as goal

pub returns : goal.returns
returns c = carrying.always_decided_truly
