use Rattle.mqb_packet.proofs.WellFormed.{one_packet}
use Rattle.mqb_packet.proofs.laws.one_packet_is_spelled.Goals as goal

pub returns : goal.returns
returns c = one_packet
