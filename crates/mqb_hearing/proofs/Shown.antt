-- What a view of a user packet shows.
use Rattle.std.proofs.Common.{◌≡◌, ◌<◌, ◌≤◌, ℕ, All, List, Option, None, Some, Ok, Result, length, refl, sym, ap, subst, ◌∙◌, arith}
use Rattle.std.specs.Prelude.{IfSome, option_map, option_and_then}
use Rattle.std.specs.Result.{result_ok}
use Rattle.mqb_base.specs.declared.heads.SessionHead.{SessionHead}
use Rattle.mqb_base.specs.declared.message.Message.{Message}
use Rattle.mqb_base.specs.declared.queue_names.QueueName.{QueueName}
use Rattle.mqb_fields.specs.declared.faults.HeadFault.{HeadFault}
use Rattle.mqb_heads.specs.Fields.{WireName, seen_name}
use Rattle.mqb_heads.specs.declared.base.TheConstants.{MAX_PACKET}
use Rattle.mqb_packet.specs.Parts.{PacketParts, User, UserParts, packet_of, seen_packet, seen_user}
use Rattle.mqb_packet.specs.Plain.{IsWellFormedPacket, IsWellFormedUser, packet_size}
use Rattle.mqb_packet.specs.Spelled.{IsLent, Spells, message_in, message_with, name_in, optional_name_in, packet_in, user_packet}
use Rattle.mqb_packet.specs.Values.{IsUserPacket}
use Rattle.mqb_packet.specs.declared.lent.PacketView.TheVariants as view
use Rattle.mqb_packet.specs.declared.lent.UserView.{UserView}
use Rattle.mqb_packet.specs.declared.packet.Packet.{Packet}
use Rattle.mqb_packet.specs.declared.packet.Packet.TheVariants as packet
use Rattle.mqb_packet.specs.declared.packet.UserPacket.{UserPacket}
use Rattle.mqb_packet.specs.ReadPackets.{IsReadOf}
use Rattle.mqb_setup.specs.Widths.{IsSessionHead}
use Rattle.mqb_model.specs.calls.hear.Hear.{IsHead}
use Rattle.mqb_model.specs.records.Reading.{as_user, user_packet_of}
use Rattle.mqb_hearing.specs.Lent.{IsShown, name_shown, packet_shown}

some_is : {X : Type 0} (x y : X) → Some x ≡ Some y → x ≡ y
some_is x y e = cc

abbrev done : PacketParts → Result PacketParts HeadFault
done parts = Ok parts

ok_is : (x y : PacketParts) → done x ≡ done y → x ≡ y
ok_is x y e = cc

-- a name that may be absent, and is spelled where it is there
optional : (o : Option WireName) (x : Option QueueName) → optional_name_in o ≡ Some x → x ≡ name_shown o
optional None x e = sym (some_is None x e)
optional (Some w) x e = at (name_in w) e
  where
    at : (q : Option QueueName) → option_map (λ queue. Some queue) q ≡ Some x → x ≡ q
    at None e = absurd (let none : ⊥ = cc in none)
    at (Some q) e = sym (some_is (Some q) x e)

-- the message of parts, once its destination is known
said_with : (parts : UserParts) (d : QueueName) (m : Message) → name_in parts.user.destination ≡ Some d → message_in parts ≡ Some m
    → m ≡ message_with parts d (name_shown parts.user.admin) (name_shown parts.user.response)
said_with parts d m named said = at (optional_name_in parts.user.admin) (optional_name_in parts.user.response) refl refl
    (subst (λ (o : Option QueueName). option_and_then (λ destination. option_and_then (λ admin. option_map (λ response. message_with parts destination admin response)
    (optional_name_in parts.user.response)) (optional_name_in parts.user.admin)) o ≡ Some m) named said)
  where
    at : (a r : Option (Option QueueName)) → optional_name_in parts.user.admin ≡ a → optional_name_in parts.user.response ≡ r
        → option_and_then (λ admin. option_map (λ response. message_with parts d admin response) r) a ≡ Some m
        → m ≡ message_with parts d (name_shown parts.user.admin) (name_shown parts.user.response)
    at None r ea er e = absurd (let none : ⊥ = cc in none)
    at (Some a) None ea er e = absurd (let none : ⊥ = cc in none)
    at (Some a) (Some r) ea er e = sym (some_is (message_with parts d a r) m e)
        ∙ ap (λ (x : Option QueueName). message_with parts d x r) (optional parts.user.admin a ea)
        ∙ ap (λ (x : Option QueueName). message_with parts d (name_shown parts.user.admin) x) (optional parts.user.response r er)

-- a message that is there is this one
there : (parts : UserParts) (p : Packet) → packet_in (User parts) ≡ Some p → (m : Message) × (message_in parts ≡ Some m)
there parts p e = at (message_in parts) refl e
  where
    at : (o : Option Message) → message_in parts ≡ o → option_map (λ message. packet.User (user_packet parts message)) o ≡ Some p → (m : Message) × (message_in parts ≡ Some m)
    at None same e = absurd (let none : ⊥ = cc in none)
    at (Some m) same e = (m, same)

numbered : (o : Option SessionHead) → IfSome o IsSessionHead → IfSome o IsHead
numbered None h = tt
numbered (Some head) h = h.user

-- what is known of packets that were read
pub record ReadLaws : Type 0 where
  pub spelled : (bytes : List ℕ) (parts : PacketParts) → packet_of bytes ≡ Ok parts → (p : Packet) × Spells p bytes × IsWellFormedPacket p
  pub well_formed : (bytes : List ℕ) (user : UserPacket) → IsReadOf bytes user → IsWellFormedUser user
  pub values : (bytes : List ℕ) (user : UserPacket) → IsReadOf bytes user → IsUserPacket user
  pub size : (bytes : List ℕ) (user : UserPacket) → IsReadOf bytes user → packet_size (packet.User user) ≤ length bytes
  pub fits : (bytes : List ℕ) (user : UserPacket) → IsReadOf bytes user → length bytes ≤ MAX_PACKET

within : (a b c : ℕ) → a ≤ b → b ≤ c → a ≤ c
within a b c ab bc = omega (arith, ab, bc)

pub shown : ReadLaws → (v : UserView) (d : QueueName) → All (λ b. b < 256) v.whole.now → IsLent (view.User v) → name_in (seen_name v.user.destination) ≡ Some d → IsShown v d
shown law v d bytes lent named = record {
  lent = lent;
  said = said;
  readable = record {
    well_formed = law.well_formed v.whole.now p read;
    names = record { destination = values.message.destination; admin = values.message.admin; response = values.message.response };
    number = numbered p.session values.session;
    size = within (packet_size (packet.User p)) (length v.whole.now) MAX_PACKET (law.size v.whole.now p read) (law.fits v.whole.now p read);
  };
  size = law.fits v.whole.now p read;
}
  where
    parts : UserParts
    parts = seen_user v

    p : UserPacket
    p = packet_shown v d

    some_packet : (q : Packet) × Spells q v.whole.now × IsWellFormedPacket q
    some_packet = law.spelled v.whole.now (User parts) lent

    spelled : packet_in (User parts) ≡ Some some_packet.0
    spelled = subst (λ (x : PacketParts). packet_in x ≡ Some some_packet.0) (ok_is some_packet.1.parts (User parts) (sym some_packet.1.read ∙ lent)) some_packet.1.said

    message : (m : Message) × (message_in parts ≡ Some m)
    message = there parts some_packet.0 spelled

    known : message_in parts ≡ Some p.message
    known = message.1 ∙ ap (λ (m : Message). Some m) (said_with parts d message.0 named message.1)

    said : packet_in (User parts) ≡ Some (packet.User p)
    said = ap (λ (o : Option Message). option_map (λ message. packet.User (user_packet parts message)) o) known

    read : IsReadOf v.whole.now p
    read = (bytes, record { parts = User parts; read = lent; said = said })

    values : IsUserPacket p
    values = law.values v.whole.now p read

-- the packet that the bytes are
pub reads : (v : UserView) (d : QueueName) → IsShown v d → user_packet_of v.whole.now ≡ Some (packet_shown v d)
reads v d h = ap (λ (r : Result PacketParts HeadFault). option_and_then as_user (option_and_then packet_in (result_ok r))) h.lent
    ∙ ap (option_and_then as_user) h.said
