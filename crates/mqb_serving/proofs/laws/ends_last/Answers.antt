use Rattle.mqb_serving.proofs.Reading.{ends_last}
use Rattle.mqb_serving.proofs.laws.ends_last.Goals as goal

pub returns : goal.returns
returns c = ends_last
