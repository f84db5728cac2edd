use Rattle.mqb_queue.proofs.Splits.{same_first}
use Rattle.mqb_queue.proofs.laws.at_most_one_first.Goals as goal

pub returns : goal.returns
returns c = same_first
