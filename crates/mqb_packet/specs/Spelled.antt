-- The packet that bytes spell.
use Rattle.std.specs.Prelude.{◌≡◌, ℕ, ◌+◌, ◌*◌, Bool, true, false, is_some, List, [], ◌∷◌, Option}
use Rattle.std.specs.Prelude.{Some, None, option_map, option_and_then, Ok, if◌then◌else◌}
use Rattle.mqb_base.specs.declared.message.Delivery.{Delivery}
use Rattle.mqb_base.specs.declared.message.Delivery.TheVariants as delivery
use Rattle.mqb_base.specs.declared.message.Message.{Message}
use Rattle.mqb_base.specs.declared.queue_names.QueueName.{QueueName}
use Rattle.mqb_heads.specs.mqb_names.Wire.{spelled}
use Rattle.mqb_heads.specs.Fields.{WireName}
use Rattle.mqb_setup.specs.declared.internal.Internal.TheVariants as part
use Rattle.mqb_packet.specs.declared.lent.PacketView.{PacketView}
use Rattle.mqb_packet.specs.declared.lent.PacketView.TheVariants as view
use Rattle.mqb_packet.specs.declared.packet.Packet.{Packet}
use Rattle.mqb_packet.specs.declared.packet.Packet.TheVariants as packet
use Rattle.mqb_packet.specs.declared.packet.UserPacket.{UserPacket}
use Rattle.mqb_packet.specs.Parts.{PacketParts, UserParts, User, Internal, packet_of, seen_packet}

-- the units of a label of two bytes each, the lower first
abbrev pub units_of : List ℕ → List ℕ
units_of [] = []
units_of (low ∷ []) = []
units_of (low ∷ high ∷ rest) = (low + 256 * high) ∷ units_of rest

abbrev pub name_in : WireName → Option QueueName
name_in name = spelled name.kind name.part

abbrev pub optional_name_in : Option WireName → Option (Option QueueName)
optional_name_in None = Some None
optional_name_in (Some name) = option_map (λ queue. Some queue) (name_in name)

-- A packet with a transaction header is transactional, and any other is recoverable or
-- express by its flag.
abbrev pub delivery_of : (transaction recoverable : Bool) → Delivery
delivery_of true recoverable = delivery.Transactional
delivery_of false true = delivery.Recoverable
delivery_of false false = delivery.Express

-- The message of a packet with these names. Its time to reach the queue is the
-- packet's remaining time.
abbrev pub message_with : UserParts → QueueName → Option QueueName → Option QueueName → Message
message_with parts destination admin response = record {
  id = record { qm = parts.user.source; number = parts.user.number };
  class = parts.props.class;
  delivery = delivery_of (is_some parts.tx) parts.user.recoverable;
  priority = parts.base.priority;
  sent = parts.user.sent;
  reach = parts.base.reach;
  life = parts.user.life;
  destination = destination;
  admin = admin;
  response = response;
  ack = parts.props.ack;
  journal = parts.user.journal;
  correlation = parts.props.correlation;
  body_type = parts.props.body_type;
  tag = parts.props.tag;
  label = units_of parts.props.label;
  extension = parts.props.extension;
  body = parts.props.body;
}

abbrev pub message_in : UserParts → Option Message
message_in parts = option_and_then (λ destination.
    option_and_then (λ admin.
    option_map (λ response. message_with parts destination admin response)
    (optional_name_in parts.user.response))
    (optional_name_in parts.user.admin))
    (name_in parts.user.destination)

abbrev pub user_packet : UserParts → Message → UserPacket
user_packet parts message = record {
  message = message;
  to = parts.user.target;
  remaining = parts.base.reach;
  tx = parts.tx;
  session = parts.session;
}

-- the packet that says these parts
abbrev pub packet_in : PacketParts → Option Packet
packet_in (User parts) =
    option_map (λ message. packet.User (user_packet parts message)) (message_in parts)
packet_in (Internal (part.Establish establish)) = Some (packet.Establish establish)
packet_in (Internal (part.Parameters parameters)) = Some (packet.Parameters parameters)
packet_in (Internal (part.Ack head)) = Some (packet.Ack head)

-- The bytes, all of them, spell the packet.
pub record Spells (packet : Packet) (bytes : List ℕ) : Type 0 where
  pub parts : PacketParts
  pub read : packet_of bytes ≡ Ok parts
  pub said : packet_in parts ≡ Some packet

-- A user packet's view lends all of these bytes.
abbrev pub Lends : List ℕ → PacketView → Type 0
Lends bytes (view.User user) = user.whole.now ≡ bytes
Lends bytes (view.Establish establish) = Unit {0}
Lends bytes (view.Parameters parameters) = Unit {0}
Lends bytes (view.Ack head) = Unit {0}

-- A user packet's view is what was read of the bytes that it lends.
abbrev pub IsLent : PacketView → Type 0
IsLent (view.User user) = packet_of user.whole.now ≡ Ok (seen_packet (view.User user))
IsLent (view.Establish establish) = Unit {0}
IsLent (view.Parameters parameters) = Unit {0}
IsLent (view.Ack head) = Unit {0}
