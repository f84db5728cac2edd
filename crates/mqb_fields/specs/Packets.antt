-- The fields of a packet.
use Rattle.std.specs.Prelude.{ℕ, List, Result}
use Rattle.mqb_fields.specs.declared.faults.HeadFault.{HeadFault}
use Rattle.mqb_fields.specs.Faults.{in_packet}
use Rattle.mqb_fields.specs.Reading.{Reading, part_at, after, number_at}

-- a number of so many bytes
abbrev pub field_at : ℕ → Reading → Result (ℕ × Reading) HeadFault
field_at width r = in_packet (number_at width r)

-- bytes that are lent as they stand
abbrev pub lent_at : ℕ → Reading → Result (List ℕ × Reading) HeadFault
lent_at count r = in_packet (part_at count r)

-- bytes that are read as anything
abbrev pub skipped : ℕ → Reading → Result Reading HeadFault
skipped count r = in_packet (after count r)
