use Rattle.mqb_queue.proofs.Others.{plans_stay}
use Rattle.mqb_queue.proofs.laws.plans_stay.Goals as goal

pub returns : goal.returns
returns c = plans_stay
