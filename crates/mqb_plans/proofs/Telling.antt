-- A message that a record tells of.
use Rattle.std.proofs.Common.{◌≡◌, ◌≤◌, arith}
use Rattle.std.proofs.lemmas.Bool.Decides.{nat_tests}
use Rattle.std.specs.Prelude.{false}
use Rattle.mqb_base.specs.Messages.{IsWellFormed}
use Rattle.mqb_base.specs.declared.message.Delivery.TheVariants.{Recoverable}
use Rattle.mqb_base.specs.declared.message.Message.{Message}
use Rattle.mqb_entries.specs.Packets.{CanTell}
use Rattle.mqb_heads.specs.declared.base.TheConstants.{MAX_PACKET}
use Rattle.mqb_model.specs.records.Packets.{is_too_large}
use Rattle.mqb_packet.specs.Plain.{message_size}
use Rattle.mqb_packet.specs.declared.packet.Headers.TheVariants as headers

-- where a session header has room, none does
bare_fits : (m : Message) → is_too_large headers.Session m ≡ false → message_size headers.Bare m ≤ MAX_PACKET
bare_fits m small = grind (arith, nat_tests)

-- so a record can tell of it
pub can_tell : (m : Message) → IsWellFormed m → m.delivery ≡ Recoverable → is_too_large headers.Session m ≡ false → CanTell m
can_tell m form recoverable small = record { well_formed = form; recoverable = recoverable; small = bare_fits m small }
