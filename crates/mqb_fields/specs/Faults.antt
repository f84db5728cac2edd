use Rattle.std.specs.Prelude.{ℕ, Result, Ok, Err}
use Rattle.mqb_fields.specs.declared.faults.Short.{Short}
use Rattle.mqb_fields.specs.declared.faults.HeadFault.{HeadFault}
use Rattle.mqb_fields.specs.declared.faults.HeadKind.{HeadKind}
use Rattle.mqb_fields.specs.declared.faults.HeadKind.TheVariants.{Size}

-- a field passes the packet's end: a fault of the size field
abbrev pub past_end : HeadFault
past_end = record { at = 8; kind = Size }

-- a fault of this kind at this place
abbrev pub fault_at : {X : Type 0} → ℕ → HeadKind → Result X HeadFault
fault_at at kind = Err (record { at = at; kind = kind })

-- what reading a field of a packet gives
abbrev pub in_packet : {X : Type 0} → Result X Short → Result X HeadFault
in_packet (Ok x) = Ok x
in_packet (Err _) = Err past_end
