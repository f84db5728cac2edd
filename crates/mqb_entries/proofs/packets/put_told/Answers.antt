use Rattle.std.proofs.Common.{◌∙◌, ◌≤◌, Err, Result, ap, length, arith}
use Rattle.mqb_packet.specs.declared.faults.PutFault.{PutFault}
use Rattle.mqb_packet.specs.declared.packet.Packet.TheVariants as packet
use Rattle.mqb_entries.specs.Packets.{packet_of, told}
use Rattle.mqb_entries.specs.Writing.{room_of}
use Rattle.mqb_entries.proofs.packets.put_told.Goals as goal

-- there was room
pub unreachable-requires : goal.unreachable-requires
unfolding room_of
unreachable-requires c =
    let size = c.plain_size.ensures (packet.User (packet_of c.args.message.now c.args.to)) in
    let room : length (told c.args.message.now c.args.to) ≤ room_of c.args.out.now = c.requires.room in
    let fault : PutFault → Result (Unit {0}) PutFault = λ why. Err why in
    c.put_message.ensures.ready (omega (arith, size, room)) (c.in-Err-Memory.is ∙ ap fault c.in-Err-Memory.field-0-is)
