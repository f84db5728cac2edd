-- A user packet that bytes spell can be written, and its message carried.
use Rattle.std.proofs.Common.{refl, ap, ◌∙◌, arith}
use Rattle.std.proofs.lemmas.Bool.Decides.{nat_tests}
use Rattle.std.specs.Prelude.{◌+◌, ◌<◌, ◌≡◌, ◌≤◌, List, None, Ok, Err, Option, Result, Some, false, length, nat_lt, option_and_then, ℕ}
use Rattle.std.proofs.lemmas.List.Elements.{All-from_recursion}
use Rattle.std.specs.Result.{result_ok}
use Rattle.mqb_entries.specs.Formats.{IsBytes}
use Rattle.mqb_packet.specs.mqb_heads.declared.base.TheConstants.{MAX_PACKET}
use Rattle.mqb_packet.specs.Parts.{packet_of}
use Rattle.mqb_packet.specs.Plain.{IsWellFormedUser, message_size, packet_size, session_size, tx_size}
use Rattle.mqb_packet.specs.Spelled.{Spells, packet_in}
use Rattle.mqb_packet.specs.Values.{IsUserPacket}
use Rattle.mqb_base.specs.declared.message.Message.{Message}
use Rattle.mqb_packet.specs.declared.packet.Headers.TheVariants as headers
use Rattle.mqb_packet.specs.declared.packet.Packet.{Packet}
use Rattle.mqb_packet.specs.declared.packet.Packet.TheVariants as packet
use Rattle.mqb_packet.specs.declared.packet.UserPacket.{UserPacket}
use Rattle.mqb_packet.specs.ReadPackets.{IsReadOf}
use Rattle.mqb_model.specs.records.Carrying.{IsRecorded}
use Rattle.mqb_model.specs.records.Packets.{is_too_large}
use Rattle.mqb_model.specs.records.Reading.{as_user, user_packet_of}

pub then_some : {X Y : Type 0} (f : X → Option Y) (o : Option X) (y : Y) → option_and_then f o ≡ Some y → (x : X) × (o ≡ Some x) × (f x ≡ Some y)
then_some f (Some x) y e = (x, refl, e)
then_some f None y e = absurd cc

ok_given : {X E : Type 0} (o : Result X E) (x : X) → result_ok o ≡ Some x → o ≡ Ok x
ok_given (Ok y) x e = cc
ok_given (Err fault) x e = absurd cc

user_given : (q : Packet) (p : UserPacket) → as_user q ≡ Some p → q ≡ packet.User p
user_given (packet.User user) p e = cc
user_given q p e = absurd cc

-- The bytes spell the packet.
pub spells : (bytes : List ℕ) (p : UserPacket) → user_packet_of bytes ≡ Some p → Spells (packet.User p) bytes
spells bytes p e =
    let user = then_some as_user (option_and_then packet_in (result_ok (packet_of bytes))) p e in
    let said = then_some packet_in (result_ok (packet_of bytes)) user.0 user.1 in
    record {
      parts = said.0;
      read = ok_given (packet_of bytes) said.0 said.1;
      said = said.2 ∙ ap (λ (q : Packet). Some q) (user_given user.0 p user.2);
    }

-- A part of what is small is small.
bare_is_small : (base user tx props session count limit : ℕ) → base + user + tx + props + session ≤ count → count ≤ limit
    → nat_lt limit (base + user + 0 + props + 0) ≡ false
bare_is_small base user tx props session count limit longer small = grind (arith, nat_tests)

-- what the law of packets that were read says
pub record AreWritten : Type 0 where
  pub well_formed : (bytes : List ℕ) (user : UserPacket) → IsReadOf bytes user → IsWellFormedUser user
  pub values : (bytes : List ℕ) (user : UserPacket) → IsReadOf bytes user → IsUserPacket user
  pub size : (bytes : List ℕ) (user : UserPacket) → IsReadOf bytes user → packet_size (packet.User user) ≤ length bytes
  pub fits : (bytes : List ℕ) (user : UserPacket) → IsReadOf bytes user → length bytes ≤ MAX_PACKET

pub packet_is_read : AreWritten → (bytes : List ℕ) (p : UserPacket) → IsBytes bytes → user_packet_of bytes ≡ Some p → IsRecorded p.message
packet_is_read are bytes p small e =
    let read : IsReadOf bytes p = (All-from_recursion (λ b. b < 256) bytes small, spells bytes p e) in
    let message = (are.values bytes p read).message in
    record {
      well_formed = (are.well_formed bytes p read).message;
      named = record { destination = message.destination; admin = message.admin; response = message.response };
      size = bare_is_small _ _ (tx_size p.tx) _ (session_size p.session) (length bytes) MAX_PACKET (are.size bytes p read) (are.fits bytes p read);
    }

-- where the packet that tells of a message may be written, so may it be without further headers
pub bare_is_not_large : (m : Message) → message_size headers.Bare m ≤ MAX_PACKET → is_too_large headers.Bare m ≡ false
bare_is_not_large m small = grind (arith, nat_tests)
