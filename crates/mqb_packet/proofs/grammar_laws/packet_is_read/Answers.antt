use Rattle.mqb_packet.proofs.Packets.{packet_form, packet_spelled}
use Rattle.mqb_packet.proofs.grammar_laws.packet_is_read.Goals as goal

pub returns : goal.returns
returns c = λ bytes parts. (packet_form bytes parts, packet_spelled bytes parts)
