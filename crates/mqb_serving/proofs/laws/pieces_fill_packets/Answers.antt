use Rattle.mqb_serving.proofs.Filling.{pieces_fill_packets}
use Rattle.mqb_serving.proofs.laws.pieces_fill_packets.Goals as goal

pub returns : goal.returns
returns c = pieces_fill_packets
