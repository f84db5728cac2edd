use Rattle.mqb_stream.proofs.Cuts.{cut_once}
use Rattle.mqb_stream.proofs.laws.one_cutting.Goals as goal

pub returns : goal.returns
returns c = cut_once
