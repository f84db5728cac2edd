-- What holds of each packet that a program has: its numbers fit their types.
use Rattle.std.specs.Prelude.{◌<◌, ◌^◌, IfSome}
use Rattle.mqb_heads.specs.mqb_names.Values.{AreBytes}
use Rattle.mqb_heads.specs.Values.{IsMessage, IsTxHead}
use Rattle.mqb_setup.specs.Widths.{IsEstablish, IsParameters, IsSessionHead}
use Rattle.mqb_packet.specs.declared.packet.Packet.{Packet}
use Rattle.mqb_packet.specs.declared.packet.Packet.TheVariants as packet
use Rattle.mqb_packet.specs.declared.packet.UserPacket.{UserPacket}

pub record IsUserPacket (user : UserPacket) : Type 0 where
  pub message : IsMessage user.message
  pub to : AreBytes 16 user.to.0
  pub remaining : user.remaining < 2 ^ 32
  pub tx : IfSome user.tx IsTxHead
  pub session : IfSome user.session IsSessionHead

abbrev pub IsPacket : Packet → Type 0
IsPacket (packet.User user) = IsUserPacket user
IsPacket (packet.Establish establish) = IsEstablish establish
IsPacket (packet.Parameters parameters) = IsParameters parameters
IsPacket (packet.Ack head) = IsSessionHead head
