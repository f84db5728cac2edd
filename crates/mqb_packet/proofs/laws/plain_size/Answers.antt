use Rattle.mqb_packet.proofs.Behind.{plain_length}
use Rattle.mqb_packet.proofs.laws.plain_size.Goals as goal

pub returns : goal.returns
returns c = plain_length
