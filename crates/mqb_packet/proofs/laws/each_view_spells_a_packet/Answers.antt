use Rattle.mqb_packet.proofs.WellFormed.{packet_read, said_packet}
use Rattle.mqb_packet.proofs.laws.each_view_spells_a_packet.Goals as goal

pub returns : goal.returns
returns c = λ bytes parts e. said_packet bytes parts e (packet_read bytes parts e)
