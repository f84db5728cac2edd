use Rattle.std.proofs.Common.{◌∙◌, ap, arith, length}
use Rattle.std.specs.Prelude.{option_map}
use Rattle.mqb_entries.specs.Packets.{packet_of}
use Rattle.mqb_model.specs.records.Reading.{user_packet_of}
use Rattle.mqb_model.specs.records.Record as entry
use Rattle.mqb_packet.specs.declared.packet.Packet.TheVariants as packet
use Rattle.mqb_plans.proofs.recording.Told.entry.Goals as goal

pub returns-clause-entry : goal.returns-clause-entry
returns-clause-entry c = ap (option_map (λ p. entry.Plain c.args.now p)) (ap user_packet_of c.of_message.ensures ∙ c.told_is_read.ensures.read)

pub returns-clause-size : goal.returns-clause-size
returns-clause-size c =
    let long = ap length c.of_message.ensures in
    let size = c.plain_size.ensures (packet.User (packet_of c.args.self.now.message c.args.self.now.to)) in
    let small = c.requires.small in
    omega (arith, long, size, small)
