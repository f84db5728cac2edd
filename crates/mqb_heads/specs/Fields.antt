-- Identifiers, names and padding in a packet.
use Rattle.std.specs.Prelude.{ℕ, ◌-◌, ◌%◌, ◌==◌, List, [], ◌++◌, length, replicate, Option, Some}
use Rattle.std.specs.Prelude.{None, Result, Ok, Err, if◌then◌else◌}
use Rattle.mqb_base.specs.declared.queue_names.QueueName.{QueueName}
use Rattle.mqb_base.specs.declared.ids.Guid.{Guid}
use Rattle.mqb_base.specs.declared.ids.MessageId.{MessageId}
use Rattle.mqb_fields.specs.declared.faults.HeadFault.{HeadFault}
use Rattle.mqb_fields.specs.declared.faults.HeadKind.TheVariants.{Name}
use Rattle.mqb_fields.specs.Faults.{past_end, fault_at, in_packet}
use Rattle.mqb_fields.specs.Packets.{field_at, lent_at, skipped}
use Rattle.mqb_fields.specs.Guids.{swapped}
use Rattle.mqb_fields.specs.Reading.{◌>>=◌, Reading, rest_of, guid_at}
use Rattle.mqb_fields.specs.Writing.{bytes_of}
use Rattle.mqb_names.specs.declared.wire.NameView.{NameView}
use Rattle.mqb_names.specs.declared.wire.WireFault.{WireFault}
use Rattle.mqb_names.specs.declared.wire.WireFault.TheVariants.{Short, Bad}
use Rattle.mqb_names.specs.Wire.{kind_of, wire, wire_at}

abbrev pub source_at : Reading → Result (Guid × Reading) HeadFault
source_at r = do
  guid ← in_packet (guid_at r)
  Ok (record { 0 = guid.0 }, guid.1)

-- a message's identifier
abbrev pub id_at : Reading → Result (MessageId × Reading) HeadFault
id_at r = do
  qm ← source_at r
  number ← field_at 4 qm.1
  Ok (record { qm = qm.0; number = number.0 }, number.1)

-- a name in a packet: its type, and its wire form
pub record WireName : Type 0 where
  pub kind : ℕ
  pub part : List ℕ

abbrev pub seen_name : NameView → WireName
seen_name view = record { kind = view.kind; part = view.part.now }

-- how long a name is, or the fault of a packet in which none begins at this place
abbrev pub in_name : ℕ → Result ℕ WireFault → Result ℕ HeadFault
in_name at (Ok len) = Ok len
in_name at (Err Short) = Err past_end
in_name at (Err Bad) = fault_at at Name

-- a name of this type
abbrev pub name_at : ℕ → Reading → Result (WireName × Reading) HeadFault
name_at kind r = do
  len ← in_name r.at (wire_at kind (rest_of r))
  part ← lent_at len r
  Ok (record { kind = kind; part = part.0 }, part.1)

abbrev pub some_name : Result (WireName × Reading) HeadFault
    → Result (Option WireName × Reading) HeadFault
some_name (Ok name) = Ok (Some name.0, name.1)
some_name (Err fault) = Err fault

-- a name of this type, and none of type 0
abbrev pub optional_name_at : ℕ → Reading → Result (Option WireName × Reading) HeadFault
optional_name_at kind r = if kind == 0 then Ok (None, r) else some_name (name_at kind r)

-- how many bytes there are from this count on up to a multiple of 4
abbrev pub padding : ℕ → ℕ
padding count = (4 - count % 4) % 4

-- where the header that began at this place ends
abbrev pub padded_at : ℕ → Reading → Result Reading HeadFault
padded_at start r = skipped (padding (r.at - start)) r

-- a header with its padding
abbrev pub padded : List ℕ → List ℕ
padded bytes = bytes ++ replicate (padding (length bytes)) 0

abbrev pub plain_id : MessageId → List ℕ
plain_id id = swapped id.qm.0 ++ bytes_of 4 id.number

-- a name as it stands in a packet
abbrev pub wire_name : QueueName → WireName
wire_name name = record { kind = kind_of name; part = wire name }

-- the type of a name that may be absent, and its bytes

abbrev pub kind_or_none : Option QueueName → ℕ
kind_or_none None = 0
kind_or_none (Some name) = kind_of name

abbrev pub wire_or_none : Option QueueName → List ℕ
wire_or_none None = []
wire_or_none (Some name) = wire name
