-- The fields of entries, at a place of the bytes.
use Rattle.std.specs.Prelude.{ℕ, Bool, true, false, ◌==◌, is_none, List, Option, Some, None, Result}
use Rattle.std.specs.Prelude.{Ok, Err, if◌then◌else◌}
use Rattle.mqb_base.specs.declared.ids.Guid.{Guid}
use Rattle.mqb_base.specs.declared.ids.MessageId.{MessageId}
use Rattle.mqb_base.specs.Names.{name_fault}
use Rattle.mqb_fields.specs.declared.faults.Short.{Short}
use Rattle.mqb_fields.specs.Reading.{◌>>=◌, Reading, part_at, number_at}
use Rattle.mqb_fields.specs.Reading as wire
use Rattle.mqb_entries.specs.declared.faults.EntryFault.{EntryFault}

-- no field of the grammar stands here
abbrev pub outside : {X : Type 0} → Reading → Result X EntryFault
outside r = Err (record { at = r.at })

-- what stands here is a field, if the bytes suffice
abbrev pub field : {X : Type 0} → Reading → Result X Short → Result X EntryFault
field r (Ok x) = Ok x
field r (Err short) = outside r

abbrev pub u8_at : Reading → Result (ℕ × Reading) EntryFault
u8_at r = field r (number_at 1 r)

abbrev pub u16_at : Reading → Result (ℕ × Reading) EntryFault
u16_at r = field r (number_at 2 r)

abbrev pub u32_at : Reading → Result (ℕ × Reading) EntryFault
u32_at r = field r (number_at 4 r)

abbrev pub address_at : Reading → Result (List ℕ × Reading) EntryFault
address_at r = field r (part_at 4 r)

abbrev pub guid_part : Reading → Result (Guid × Reading) Short
guid_part r = do
  guid ← wire.guid_at r
  Ok (record { 0 = guid.0 }, guid.1)

abbrev pub guid_at : Reading → Result (Guid × Reading) EntryFault
guid_at r = field r (guid_part r)

abbrev pub id_part : Reading → Result (MessageId × Reading) Short
id_part r = do
  qm ← guid_part r
  number ← number_at 4 qm.1
  Ok (record { qm = qm.0; number = number.0 }, number.1)

-- the identifier of a message: 20 bytes
abbrev pub id_at : Reading → Result (MessageId × Reading) EntryFault
id_at r = field r (id_part r)

-- a count of bytes, a number of this width, and that many bytes
abbrev pub counted_part : ℕ → Reading → Result (List ℕ × Reading) Short
counted_part width r = do
  count ← number_at width r
  part_at count.0 count.1

-- a name behind its length
unfoldable pub name_at : Reading → Result (List ℕ × Reading) EntryFault
name_at r = do
  name ← field r (counted_part 1 r)
  if is_none (name_fault name.0) then Ok name else outside r

-- a packet behind its length
abbrev pub packet_at : Reading → Result (List ℕ × Reading) EntryFault
packet_at r = field r (counted_part 4 r)

-- a byte 0 or 1
unfoldable pub flag_at : Reading → Result (Bool × Reading) EntryFault
flag_at r = do
  byte ← u8_at r
  if byte.0 == 0 then Ok (false, byte.1) else if byte.0 == 1 then Ok (true, byte.1) else outside r

-- a flag, and a GUID where it is 1
unfoldable pub public_at : Reading → Result (Option Guid × Reading) EntryFault
public_at r = do
  flag ← flag_at r
  if flag.0 then (guid_at flag.1 >>= λ guid. Ok (Some guid.0, guid.1)) else Ok (None, flag.1)
