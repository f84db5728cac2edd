use Rattle.mqb_queue.proofs.Others.{one_place}
use Rattle.mqb_queue.proofs.laws.one_place_changes.Goals as goal

pub returns : goal.returns
returns c = one_place
