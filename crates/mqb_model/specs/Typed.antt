-- What each entry of a program has, as far as its record tells of it.
use Rattle.std.specs.Prelude.{◌≡◌, All, List, Some, ℕ}
use Rattle.mqb_entries.specs.declared.entry.ArrivedPart.{ArrivedPart}
use Rattle.mqb_entries.specs.declared.entry.ArrivedPart.TheVariants as part
use Rattle.mqb_entries.specs.declared.entry.Entry.{Entry}
use Rattle.mqb_entries.specs.declared.entry.Entry.TheVariants as form
use Rattle.mqb_entries.specs.declared.members.OpView.{OpView}
use Rattle.mqb_entries.specs.declared.members.OpView.TheVariants as op
use Rattle.mqb_packet.specs.mqb_names.Values.{IsName}
use Rattle.mqb_packet.specs.declared.packet.UserPacket.{UserPacket}
use Rattle.mqb_model.specs.records.Carrying.{IsRecorded}
use Rattle.mqb_model.specs.records.Reading.{user_packet_of}

-- where bytes are a user packet, its message can be carried
abbrev pub TellsOfCarried : List ℕ → Type 0
TellsOfCarried bytes = (p : UserPacket) → user_packet_of bytes ≡ Some p → IsRecorded p.message

abbrev pub IsTypedOp : OpView → Type 0
IsTypedOp (op.Send bytes) = TellsOfCarried bytes
IsTypedOp (op.Take queue id) = Unit {0}

abbrev pub IsTypedPart : ArrivedPart → Type 0
IsTypedPart (part.Decided bytes) = TellsOfCarried bytes
IsTypedPart (part.Stored bytes) = TellsOfCarried bytes
IsTypedPart _ = Unit {0}

-- The host of a peer is a name, and the messages of packets can be carried.
abbrev pub IsTyped : Entry → Type 0
IsTyped (form.Peer v) = IsName v.host
IsTyped (form.Commit now ops) = All IsTypedOp ops
IsTyped (form.Plain now bytes) = TellsOfCarried bytes
IsTyped (form.Arrived now released part) = IsTypedPart part
IsTyped _ = Unit {0}
