use Rattle.std.proofs.Common.{ap}
use Rattle.mqb_packet.specs.Parts.{seen}
use Rattle.mqb_posts.proofs.Packets.{no_fault, read_said}
use Rattle.mqb_posts.proofs.reading.packet_at.Goals as goal

pub unreachable-requires : goal.unreachable-requires
unreachable-requires g c = no_fault _ c.requires.packets.packets _ _ _ _ c.requires.packets.writable c.requires.packets.are c.packet.ensures c.view.ensures.packet (ap seen c.in-Err.is)

pub returns-clause-packet : goal.returns-clause-packet
returns-clause-packet g c packets w are = read_said _ packets c.args.k _ _ _ c.requires.first w are c.packet.ensures c.view.ensures.packet (ap seen c.in-Ok.is)
