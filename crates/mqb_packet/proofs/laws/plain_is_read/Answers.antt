use Rattle.mqb_packet.proofs.PacketAgain.{packet_again, spelling_again}
use Rattle.mqb_packet.proofs.laws.plain_is_read.Goals as goal

pub returns : goal.returns
returns c = record { read = packet_again; spells = spelling_again }
