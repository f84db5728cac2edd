-- The plain spelling of a packet: reserved bytes, padding and unused bits are 0.
use Rattle.std.specs.Prelude.{◌≡◌, ℕ, ◌+◌, Bool, true, false, is_some, List, [], ◌++◌, Option}
use Rattle.std.specs.Prelude.{Some, None}
use Rattle.mqb_base.specs.declared.heads.SessionHead.{SessionHead}
use Rattle.mqb_base.specs.declared.heads.TxHead.{TxHead}
use Rattle.mqb_base.specs.declared.message.Message.{Message}
use Rattle.mqb_base.specs.declared.times.TheConstants.{UNLIMITED}
use Rattle.mqb_base.specs.Messages.{IsWellFormed}
use Rattle.mqb_heads.specs.declared.base.BaseHead.{BaseHead}
use Rattle.mqb_heads.specs.Base.{plain_base}
use Rattle.mqb_heads.specs.Properties.{plain_props, props_of, props_size}
use Rattle.mqb_heads.specs.Transactions.{plain_tx}
use Rattle.mqb_heads.specs.User.{is_transactional, plain_user, user_of, user_size}
use Rattle.mqb_setup.specs.declared.internal.Internal.TheVariants as part
use Rattle.mqb_setup.specs.Internals.{plain_internal}
use Rattle.mqb_setup.specs.Sessions.{plain_session}
use Rattle.mqb_packet.specs.declared.packet.Carriage.{Carriage}
use Rattle.mqb_packet.specs.declared.packet.Headers.{Headers}
use Rattle.mqb_packet.specs.declared.packet.Headers.TheVariants.{Bare, Session, TxAndSession}
use Rattle.mqb_packet.specs.declared.writing.TheConstants.{BASE_SIZE, TX_SIZE, SESSION_SIZE}
use Rattle.mqb_packet.specs.declared.packet.Packet.{Packet}
use Rattle.mqb_packet.specs.declared.packet.Packet.TheVariants as packet
use Rattle.mqb_packet.specs.declared.packet.UserPacket.{UserPacket}
use Rattle.mqb_packet.specs.Parts.{PacketParts, UserParts, User, Internal}

-- A user packet that may be written, its size left aside: the transaction header is there exactly
-- in a transactional one.
pub record IsWellFormedUser (user : UserPacket) : Type 0 where
  pub message : IsWellFormed user.message
  pub tx : is_some user.tx ≡ is_transactional user.message.delivery
  pub reach : user.message.reach ≡ user.remaining

-- the user packet of a lent message, whose time to reach its queue is what the
-- packet has left of it
abbrev pub carried_user : Message → Carriage → UserPacket
carried_user m c = record {
  message = record m { reach = c.remaining };
  to = c.to;
  remaining = c.remaining;
  tx = c.tx;
  session = c.session;
}

-- what a user packet has beside its message
abbrev pub carriage_of : UserPacket → Carriage
carriage_of user =
    record { to = user.to; remaining = user.remaining; tx = user.tx; session = user.session }

-- a packet that may be written, its size left aside
abbrev pub IsWellFormedPacket : Packet → Type 0
IsWellFormedPacket (packet.User user) = IsWellFormedUser user
IsWellFormedPacket (packet.Establish establish) = Unit {0}
IsWellFormedPacket (packet.Parameters parameters) = Unit {0}
IsWellFormedPacket (packet.Ack head) = Unit {0}

abbrev pub tx_or_none : Option TxHead → List ℕ
tx_or_none None = []
tx_or_none (Some head) = plain_tx head

abbrev pub session_or_none : Option SessionHead → List ℕ
session_or_none None = []
session_or_none (Some head) = plain_session head

abbrev pub tx_size : Option TxHead → ℕ
tx_size None = 0
tx_size (Some head) = TX_SIZE

abbrev pub session_size : Option SessionHead → ℕ
session_size None = 0
session_size (Some head) = SESSION_SIZE

-- how many bytes a message's packet has with so many bytes of a transaction header
-- and of a session header
abbrev pub size_with : Message → (tx session : ℕ) → ℕ
size_with m tx session = BASE_SIZE + user_size m + tx + props_size m + session

-- how many bytes a message's packet has with these headers
abbrev pub message_size : Headers → Message → ℕ
message_size Bare m = size_with m 0 0
message_size Session m = size_with m 0 SESSION_SIZE
message_size TxAndSession m = size_with m TX_SIZE SESSION_SIZE

abbrev pub user_packet_size : UserPacket → ℕ
user_packet_size user = size_with user.message (tx_size user.tx) (session_size user.session)

-- how many bytes the plain spelling of a packet has
abbrev pub packet_size : Packet → ℕ
packet_size (packet.User user) = user_packet_size user
packet_size (packet.Establish establish) = 572
packet_size (packet.Parameters parameters) = 32
packet_size (packet.Ack head) = 36

abbrev pub base_for : UserPacket → BaseHead
base_for user = record {
  priority = user.message.priority;
  internal = false;
  session = is_some user.session;
  size = user_packet_size user;
  reach = user.remaining;
}

abbrev pub plain_user_packet : UserPacket → List ℕ
plain_user_packet user = plain_base (base_for user) ++ plain_user user.message user.to
    ++ tx_or_none user.tx ++ plain_props user.message ++ session_or_none user.session

-- The base header of an internal packet has no priority and no limit of time. A session header is
-- there in an acknowledgement alone.
abbrev pub internal_base : (session : Bool) → (size : ℕ) → BaseHead
internal_base session size =
    record { priority = 0; internal = true; session = session; size = size; reach = UNLIMITED }

abbrev pub plain_spelling : Packet → List ℕ
plain_spelling (packet.User user) = plain_user_packet user
plain_spelling (packet.Establish establish) =
    plain_base (internal_base false 572) ++ plain_internal (part.Establish establish)
plain_spelling (packet.Parameters parameters) =
    plain_base (internal_base false 32) ++ plain_internal (part.Parameters parameters)
plain_spelling (packet.Ack head) =
    plain_base (internal_base true 36) ++ plain_internal (part.Ack head)

abbrev pub user_parts_of : UserPacket → UserParts
user_parts_of user = record {
  base = base_for user;
  user = user_of user.message user.to;
  tx = user.tx;
  props = props_of user.message;
  session = user.session;
  whole = plain_user_packet user;
}

-- what the plain spelling of a packet says
abbrev pub parts_of : Packet → PacketParts
parts_of (packet.User user) = User (user_parts_of user)
parts_of (packet.Establish establish) = Internal (part.Establish establish)
parts_of (packet.Parameters parameters) = Internal (part.Parameters parameters)
parts_of (packet.Ack head) = Internal (part.Ack head)
