use Rattle.std.proofs.Common.{◌∙◌, sym}
use Rattle.mqb_packet.specs.declared.packet.Packet.TheVariants as packet
use Rattle.mqb_entries.specs.Packets.{packet_of}
use Rattle.mqb_entries.proofs.packets.told_len.Goals as goal

pub returns : goal.returns
returns c = record { len = c.in-Ok.ensures.size ∙ sym (c.plain_size.ensures (packet.User (packet_of c.args.message.now c.args.to.now))) }
