use Rattle.mqb_stream.proofs.Cuts.{same_packets}
use Rattle.mqb_stream.proofs.laws.pieces_do_not_matter.Goals as goal

pub returns : goal.returns
returns c = same_packets
