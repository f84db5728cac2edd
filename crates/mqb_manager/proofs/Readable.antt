-- What was read of a user packet can be heard.
use Rattle.std.proofs.Common.{sym, subst, ◌∙◌, arith}
use Rattle.std.specs.Prelude.{◌<◌, ◌≡◌, ◌≤◌, All, IfSome, IsSomeAnd, List, None, Ok, Option, Result, Some, length, option_map, ℕ}
use Rattle.mqb_base.specs.declared.heads.SessionHead.{SessionHead}
use Rattle.mqb_base.specs.declared.message.Message.{Message}
use Rattle.mqb_fields.specs.declared.faults.HeadFault.{HeadFault}
use Rattle.mqb_heads.specs.declared.base.TheConstants.{MAX_PACKET}
use Rattle.mqb_model.specs.calls.hear.Hear.{IsHead, IsReadable}
use Rattle.mqb_packet.specs.Parts.{PacketParts, User, UserParts, packet_of, seen_packet, seen_user}
use Rattle.mqb_packet.specs.Plain.{IsWellFormedPacket, IsWellFormedUser, packet_size}
use Rattle.mqb_packet.specs.Spelled.{IsLent, Spells, message_in, packet_in, user_packet}
use Rattle.mqb_packet.specs.Values.{IsUserPacket}
use Rattle.mqb_packet.specs.declared.lent.PacketView.TheVariants as view
use Rattle.mqb_packet.specs.declared.lent.UserView.{UserView}
use Rattle.mqb_packet.specs.declared.packet.Packet.{Packet}
use Rattle.mqb_packet.specs.declared.packet.Packet.TheVariants as packet
use Rattle.mqb_packet.specs.declared.packet.UserPacket.{UserPacket}
use Rattle.mqb_packet.specs.ReadPackets.{IsReadOf}
use Rattle.mqb_setup.specs.Widths.{IsSessionHead}

-- what is known of packets that were read
pub record ReadLaws : Type 0 where
  pub spelled : (bytes : List ℕ) (parts : PacketParts) → packet_of bytes ≡ Ok parts → (p : Packet) × Spells p bytes × IsWellFormedPacket p
  pub well_formed : (bytes : List ℕ) (user : UserPacket) → IsReadOf bytes user → IsWellFormedUser user
  pub values : (bytes : List ℕ) (user : UserPacket) → IsReadOf bytes user → IsUserPacket user
  pub size : (bytes : List ℕ) (user : UserPacket) → IsReadOf bytes user → packet_size (packet.User user) ≤ length bytes
  pub fits : (bytes : List ℕ) (user : UserPacket) → IsReadOf bytes user → length bytes ≤ MAX_PACKET

within : (a b c : ℕ) → a ≤ b → b ≤ c → a ≤ c
within a b c ab bc = omega (arith, ab, bc)

numbered : (o : Option SessionHead) → IfSome o IsSessionHead → IfSome o IsHead
numbered None h = tt
numbered (Some head) h = h.user

-- a user packet that was read
read_readable : ReadLaws → (bytes : List ℕ) (p : UserPacket) → IsReadOf bytes p → IsReadable (packet.User p)
read_readable law bytes p read = let values = law.values bytes p read in record {
  well_formed = law.well_formed bytes p read;
  names = record { destination = values.message.destination; admin = values.message.admin; response = values.message.response };
  number = numbered p.session values.session;
  size = within (packet_size (packet.User p)) (length bytes) MAX_PACKET (law.size bytes p read) (law.fits bytes p read);
}

abbrev done : PacketParts → Result PacketParts HeadFault
done parts = Ok parts

done_is : (x y : PacketParts) → done x ≡ done y → x ≡ y
done_is x y e = cc

-- what user parts say is a user packet, or nothing
said : (parts : UserParts) (q : Packet) → packet_in (User parts) ≡ Some q → ((p : UserPacket) → q ≡ packet.User p → IsReadable q) → IsReadable q
said parts q e f = at (message_in parts) e
  where
    at : (o : Option Message) → option_map (λ message. packet.User (user_packet parts message)) o ≡ Some q → IsReadable q
    at None e = absurd (let none : ⊥ = cc in none)
    at (Some m) e = f (user_packet parts m) (let is : q ≡ packet.User (user_packet parts m) = cc in is)

-- the packet that the view of a user packet shows
pub user_readable : ReadLaws → (v : UserView) → All (λ b. b < 256) v.whole.now → IsLent (view.User v) → IsSomeAnd (packet_in (seen_packet (view.User v))) IsReadable
user_readable law v bytes lent = subst (λ (o : Option Packet). IsSomeAnd o IsReadable) (sym spelled)
    (said parts q.0 spelled (λ p is. subst IsReadable (sym is) (read_readable law v.whole.now p (bytes, subst (λ (x : Packet). Spells x v.whole.now) is q.1))))
  where
    parts : UserParts
    parts = seen_user v

    q : (q : Packet) × Spells q v.whole.now × IsWellFormedPacket q
    q = law.spelled v.whole.now (User parts) lent

    spelled : packet_in (User parts) ≡ Some q.0
    spelled = subst (λ (x : PacketParts). packet_in x ≡ Some q.0) (done_is q.1.parts (User parts) (sym q.1.read ∙ lent)) q.1.said
