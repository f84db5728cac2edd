use Rattle.mqb_queue.proofs.Tops.{oldest_is_first}
use Rattle.mqb_queue.proofs.laws.oldest_is_first.Goals as goal

pub returns : goal.returns
returns c = oldest_is_first
