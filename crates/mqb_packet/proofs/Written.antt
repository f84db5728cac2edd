-- A user packet that was read can be written, and no longer than it was.
use Rattle.std.proofs.Common.{◌≡◌, ◌≤◌, ◌<◌, ℕ, Bool, true, false, is_some, List, length, Option, Some, Ok, refl, ap, subst, ◌∙◌, arith}
use Rattle.std.proofs.lemmas.List.Elements.{recursion_from_All}
use Rattle.mqb_base.specs.declared.message.Message.{Message}
use Rattle.mqb_base.specs.declared.queue_names.QueueName.{QueueName}
use Rattle.mqb_heads.specs.declared.base.TheConstants.{MAX_PACKET}
use Rattle.mqb_heads.specs.User.{is_transactional}
use Rattle.mqb_setup.specs.declared.internal.Internal.TheVariants as part
use Rattle.mqb_packet.specs.declared.packet.Packet.TheVariants as packet
use Rattle.mqb_packet.specs.declared.packet.UserPacket.{UserPacket}
use Rattle.mqb_packet.specs.Parts.{PacketParts, UserParts, User, Internal, packet_of}
use Rattle.mqb_packet.specs.Plain.{IsWellFormedUser, packet_size}
use Rattle.mqb_packet.specs.Spelled.{name_in, optional_name_in, delivery_of, message_with, message_in, user_packet, packet_in}
use Rattle.mqb_packet.specs.Values.{IsUserPacket}
use Rattle.mqb_packet.specs.Grammar.{UserPacketForm}
use Rattle.mqb_packet.specs.ReadPackets.{IsReadOf}
use Rattle.mqb_packet.proofs.Bytes.{AreSmall, both_small, both_long}
use Rattle.mqb_packet.proofs.DirectNames.{map_some, then_some}
use Rattle.mqb_packet.proofs.HeadersRead.{user_read, user_long, props_read, units_long, props_long, base_few, base_reach, tx_long, tx_read, session_long, session_read}
use Rattle.mqb_packet.proofs.Packets.{packet_form, base_length}

-- the whole packet
record IsWritten (user : UserPacket) (bytes : List ℕ) : Type 0 where
  pub well_formed : IsWellFormedUser user
  pub values : IsUserPacket user
  pub size : packet_size (packet.User user) ≤ length bytes
  pub fits : length bytes ≤ MAX_PACKET

transactional_is : (transaction recoverable : Bool) → transaction ≡ is_transactional (delivery_of transaction recoverable)
transactional_is true recoverable = refl
transactional_is false true = refl
transactional_is false false = refl

parts_written : (parts : UserParts) (destination : QueueName) (admin response : Option QueueName) (bytes : List ℕ) → AreSmall bytes → UserPacketForm parts bytes
    → name_in parts.user.destination ≡ Some destination → optional_name_in parts.user.admin ≡ Some admin → optional_name_in parts.user.response ≡ Some response
    → IsWritten (user_packet parts (message_with parts destination admin response)) bytes
parts_written parts destination admin response bytes small form one two three =
    let f1 = form.headers in
    let f2 = f1.4 in
    let f3 = f2.4 in
    let f4 = f3.4 in
    let s1 = both_small bytes f1.0 f1.1 f1.2 small in
    let s2 = both_small f1.1 f2.0 f2.1 f2.2 s1.1 in
    let s3 = both_small f2.1 f3.0 f3.1 f3.2 s2.1 in
    let s4 = both_small f3.1 f4.0 f4.1 f4.2 s3.1 in
    let m = message_with parts destination admin response in
    let user = user_read parts.user destination admin response f2.0 s2.0 f2.3 one two three in
    let props = props_read parts.props f4.0 s4.0 f4.3 in
    record {
      well_formed = record {
        message = record {
          priority = base_few parts.base f1.0 f1.3;
          ack = props.ack;
          journal = user.journal;
          label = omega (arith, units_long parts.props.label props.units props.label, props.few);
          class = props.class;
          destination = user.destination_is.queue;
          admin = user.admin_is.queue;
          response = user.response_is.queue;
        };
        tx = transactional_is (is_some parts.tx) parts.user.recoverable;
        reach = refl;
      };
      values = record {
        message = record {
          id = record { qm = user.source; number = user.number };
          class = props.class_fits;
          sent = user.sent;
          life = user.life;
          destination = user.destination_is.valid;
          admin = user.admin_is.valid;
          response = user.response_is.valid;
          correlation = props.correlation;
          body_type = props.body_type;
          tag = props.tag;
          label = props.units_fit;
        };
        to = user.target;
        remaining = base_reach parts.base f1.0 s1.0 f1.3;
        tx = tx_read parts.tx f3.0 s3.0 f3.3;
        session = session_read parts.session f4.1 s4.1 f4.4;
      };
      size = omega (
        arith,
        both_long bytes f1.0 f1.1 f1.2,
        base_length parts.base f1.0 f1.3,
        both_long f1.1 f2.0 f2.1 f2.2,
        user_long parts.user m f2.0 user,
        both_long f2.1 f3.0 f3.1 f3.2,
        tx_long parts.tx f3.0 f3.3,
        both_long f3.1 f4.0 f4.1 f4.2,
        props_long parts.props m f4.0 refl refl refl props,
        session_long parts.session f4.1 f4.4,
      );
      fits = subst (λ (n : ℕ). n ≤ MAX_PACKET) form.size f1.3.3;
    }

user_is : (a b : UserPacket) → packet.User a ≡ packet.User b → a ≡ b
user_is a b e = cc

said_written : (parts : PacketParts) (user : UserPacket) (bytes : List ℕ) → AreSmall bytes → packet_of bytes ≡ Ok parts → packet_in parts ≡ Some (packet.User user) → IsWritten user bytes
said_written (User parts) user bytes small read said =
    let message = map_some (λ (m : Message). packet.User (user_packet parts m)) (message_in parts) (packet.User user) said in
    let destination = then_some _ (name_in parts.user.destination) message.0 message.1 in
    let admin = then_some _ (optional_name_in parts.user.admin) message.0 destination.2 in
    let response = map_some _ (optional_name_in parts.user.response) message.0 admin.2 in
    let whole : user_packet parts (message_with parts destination.0 admin.0 response.0) ≡ user =
    ap (user_packet parts) response.2 ∙ user_is (user_packet parts message.0) user message.2 in
    subst (λ (u : UserPacket). IsWritten u bytes) whole
    (parts_written parts destination.0 admin.0 response.0 bytes small (packet_form bytes (User parts) read) destination.1 admin.1 response.1)
said_written (Internal (part.Establish establish)) user bytes small read said = absurd cc
said_written (Internal (part.Parameters parameters)) user bytes small read said = absurd cc
said_written (Internal (part.Ack head)) user bytes small read said = absurd cc

written : (bytes : List ℕ) (user : UserPacket) → IsReadOf bytes user → IsWritten user bytes
written bytes user is = said_written is.1.parts user bytes (recursion_from_All (λ b. b < 256) bytes is.0) is.1.read is.1.said

pub well_formed : (bytes : List ℕ) (user : UserPacket) → IsReadOf bytes user → IsWellFormedUser user
well_formed bytes user is = (written bytes user is).well_formed

pub values : (bytes : List ℕ) (user : UserPacket) → IsReadOf bytes user → IsUserPacket user
values bytes user is = (written bytes user is).values

pub no_longer : (bytes : List ℕ) (user : UserPacket) → IsReadOf bytes user → packet_size (packet.User user) ≤ length bytes
no_longer bytes user is = (written bytes user is).size

pub fits : (bytes : List ℕ) (user : UserPacket) → IsReadOf bytes user → length bytes ≤ MAX_PACKET
fits bytes user is = (written bytes user is).fits
