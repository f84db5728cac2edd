-- A user packet whose parts are lent.
use Rattle.std.specs.Prelude.{◌≡◌, ◌≤◌, List, Option, Some, length, option_and_then, ℕ}
use Rattle.mqb_base.specs.declared.queue_names.QueueName.{QueueName}
use Rattle.mqb_heads.specs.Fields.{WireName}
use Rattle.mqb_heads.specs.declared.base.TheConstants.{MAX_PACKET}
use Rattle.mqb_packet.specs.Parts.{seen_packet, seen_user}
use Rattle.mqb_packet.specs.Spelled.{IsLent, message_with, name_in, packet_in, user_packet}
use Rattle.mqb_packet.specs.declared.lent.PacketView.TheVariants as view
use Rattle.mqb_packet.specs.declared.lent.UserView.{UserView}
use Rattle.mqb_packet.specs.declared.packet.Packet.TheVariants as packet
use Rattle.mqb_packet.specs.declared.packet.UserPacket.{UserPacket}
use Rattle.mqb_model.specs.calls.hear.Hear.{IsReadable}

-- a name that may be absent, where it is one
abbrev pub name_shown : Option WireName → Option QueueName
name_shown name = option_and_then name_in name

-- the user packet that a view shows, whose message has this destination
abbrev pub packet_shown : UserView → QueueName → UserPacket
packet_shown v destination = user_packet (seen_user v)
    (message_with (seen_user v) destination (name_shown (seen_user v).user.admin)
    (name_shown (seen_user v).user.response))

-- A user packet as it was heard: what its bytes say, and all of them.
pub record PacketHeard : Type 0 where
  pub said : UserPacket
  pub whole : List ℕ

-- The view is of bytes that spell that packet, and it can be heard.
pub record IsShown (v : UserView) (destination : QueueName) : Type 0 where
  pub lent : IsLent (view.User v)
  pub said : packet_in (seen_packet (view.User v)) ≡ Some (packet.User (packet_shown v destination))
  pub readable : IsReadable (packet.User (packet_shown v destination))
  pub size : length v.whole.now ≤ MAX_PACKET
