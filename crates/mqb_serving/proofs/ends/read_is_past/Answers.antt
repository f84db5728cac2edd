use Rattle.mqb_serving.proofs.Points.{read_past}
use Rattle.mqb_serving.proofs.ends.read_is_past.Goals as goal

pub returns : goal.returns
returns c = read_past
