use Rattle.mqb_queue.proofs.Renamed.{one_named_place}
use Rattle.mqb_queue.proofs.laws.one_named_place_changes.Goals as goal

pub returns : goal.returns
returns c = one_named_place
