use Rattle.std.proofs.Common.{◌≡◌, ◌∙◌, Some, refl, ap, sym}
use Rattle.std.specs.Prelude.{option_and_then}
use Rattle.std.specs.Result.{result_ok}
use Rattle.mqb_entries.specs.Packets.{packet_of, told}
use Rattle.mqb_heads.specs.User.{is_transactional}
use Rattle.mqb_packet.specs.Plain.{IsWellFormedUser}
use Rattle.mqb_packet.specs.Spelled.{Spells, packet_in}
use Rattle.mqb_packet.specs.Values.{IsUserPacket}
use Rattle.mqb_packet.specs.declared.packet.Packet.TheVariants as packet
use Rattle.mqb_packet.specs.declared.packet.UserPacket.{UserPacket}
use Rattle.mqb_model.specs.records.Reading.{as_user}
use Rattle.mqb_model.proofs.Packets.{bare_is_not_large}
use Rattle.mqb_model.proofs.record_laws.told_is_read.Goals as goal

pub returns-clause-read : goal.returns-clause-read
returns-clause-read c =
    let p : UserPacket = packet_of c.args.message.now c.args.to.now in
    let form : IsWellFormedUser p = record { message = c.requires.well_formed; tx = sym (ap is_transactional c.requires.recoverable); reach = refl } in
    let values : IsUserPacket p = record { message = c.message_fits.ensures; to = c.guid_fits.ensures; remaining = c.word_fits.ensures; tx = tt; session = tt } in
    let spells : Spells (packet.User p) (told c.args.message.now c.args.to.now) = c.plain_is_read.ensures.spells (packet.User p) form values c.requires.small in
    ap (λ r. option_and_then as_user (option_and_then packet_in (result_ok r))) spells.read ∙ ap (option_and_then as_user) spells.said

pub returns-clause-recorded : goal.returns-clause-recorded
returns-clause-recorded c =
    let message = c.message_fits.ensures in
    record {
      well_formed = c.requires.well_formed;
      named = record { destination = message.destination; admin = message.admin; response = message.response };
      size = bare_is_not_large c.args.message.now c.requires.small;
    }
