-- A packet of an entry: bytes, bytes that were read, or a message that is spelled once,
-- where the entry is put.
use Rattle.std.specs.Prelude.{◌≡◌, ℕ, ◌^◌, ◌<◌, ◌≤◌, List, length, None}
use Rattle.mqb_base.specs.Messages.{IsWellFormed}
use Rattle.mqb_base.specs.declared.ids.Guid.{Guid}
use Rattle.mqb_base.specs.declared.message.Delivery.TheVariants.{Recoverable}
use Rattle.mqb_base.specs.declared.message.Message as base
use Rattle.mqb_packet.specs.mqb_heads.declared.base.TheConstants.{MAX_PACKET}
use Rattle.mqb_packet.specs.declared.packet.Headers.TheVariants.{Bare}
use Rattle.mqb_packet.specs.declared.packet.Packet.TheVariants as packet
use Rattle.mqb_packet.specs.declared.packet.UserPacket.{UserPacket}
use Rattle.mqb_packet.specs.Plain.{message_size, plain_spelling}
use Rattle.mqb_packet.specs.Spelled.{IsLent}
use Rattle.mqb_packet.specs.declared.lent.PacketView.TheVariants as lent
use Rattle.mqb_entries.specs.declared.packets.PacketForm.{PacketForm}
use Rattle.mqb_entries.specs.declared.packets.PacketForm.TheVariants.{Spelled, Heard, Message}

-- the packet by which a record tells of a message that goes to a manager
abbrev pub packet_of : base.Message → Guid → UserPacket
packet_of m to = record { message = m; to = to; remaining = m.reach; tx = None; session = None }

-- its bytes
abbrev pub told : base.Message → Guid → List ℕ
told m to = plain_spelling (packet.User (packet_of m to))

-- a record can tell of a message
pub record CanTell (m : base.Message) : Type 0 where
  pub well_formed : IsWellFormed m
  pub recoverable : m.delivery ≡ Recoverable
  pub small : message_size Bare m ≤ MAX_PACKET

-- the bytes of a packet
abbrev pub shown : PacketForm → List ℕ
shown (Spelled bytes) = bytes.now
shown (Heard view) = view.now.whole.now
shown (Message message to size) = told message.now to

-- it has fewer than 2^32 bytes; what was heard was read from them, and those of a
-- message were counted
abbrev pub IsShown : PacketForm → Type 0
IsShown (Spelled bytes) = length bytes.now < 2 ^ 32
IsShown (Heard view) = IsLent (lent.User view.now) × (length view.now.whole.now < 2 ^ 32)
IsShown (Message message to size) = CanTell message.now × (size ≡ length (told message.now to))
