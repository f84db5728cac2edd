-- What the lists of entries have as members.
use Rattle.std.specs.Prelude.{◌==◌, Result, Ok, if◌then◌else◌}
use Rattle.mqb_fields.specs.Reading.{◌>>=◌, Reading}
use Rattle.mqb_entries.specs.declared.faults.EntryFault.{EntryFault}
use Rattle.mqb_entries.specs.declared.members.Mark.{Mark}
use Rattle.mqb_entries.specs.declared.members.OpView.{OpView}
use Rattle.mqb_entries.specs.declared.members.OpView.TheVariants.{Send, Take}
use Rattle.mqb_entries.specs.Fields.{outside, u8_at, u32_at, id_at, packet_at}

abbrev pub send_at : Reading → Result (OpView × Reading) EntryFault
send_at r = do
  packet ← packet_at r
  Ok (Send packet.0, packet.1)

abbrev pub take_at : Reading → Result (OpView × Reading) EntryFault
take_at r = do
  queue ← u32_at r
  id ← id_at queue.1
  Ok (Take queue.0 id.0, id.1)

-- a byte 1 and a packet to send, or 2, the number of a queue and the message to take from it
unfoldable pub op_at : Reading → Result (OpView × Reading) EntryFault
op_at r = do
  byte ← u8_at r
  if byte.0 == 1 then send_at byte.1 else if byte.0 == 2 then take_at byte.1 else outside r

unfoldable pub mark_at : Reading → Result (Mark × Reading) EntryFault
mark_at r = do
  ordinal ← u32_at r
  number ← u32_at ordinal.1
  Ok (record { ordinal = ordinal.0; number = number.0 }, number.1)
