-- The internal header of a packet, and the part of its type.
use Rattle.std.specs.Prelude.{ℕ, ◌+◌, ◌/◌, ◌%◌, ◌==◌, Bool, List, ◌++◌, replicate, Result}
use Rattle.std.specs.Prelude.{Ok, if◌then◌else◌}
use Rattle.mqb_fields.specs.declared.faults.HeadFault.{HeadFault}
use Rattle.mqb_fields.specs.declared.faults.HeadKind.TheVariants.{Kind}
use Rattle.mqb_fields.specs.Faults.{fault_at, in_packet}
use Rattle.mqb_fields.specs.Packets.{field_at, skipped}
use Rattle.mqb_fields.specs.Guids.{swapped}
use Rattle.mqb_fields.specs.Reading.{◌>>=◌, Reading, guid_at}
use Rattle.mqb_fields.specs.Writing.{bytes_of}
use Rattle.mqb_setup.specs.declared.internal.Establish.{Establish}
use Rattle.mqb_setup.specs.declared.internal.Parameters.{Parameters}
use Rattle.mqb_setup.specs.declared.internal.Internal.{Internal}
use Rattle.mqb_setup.specs.declared.internal.Internal.TheVariants as part
use Rattle.mqb_setup.specs.Sessions.{session_at, plain_session}

-- the type of an internal packet: bits 0 to 3 of the flags
abbrev pub type_of : ℕ → ℕ
type_of flags = flags % 16

-- bit 4 of the flags
abbrev pub is_refused : ℕ → Bool
is_refused flags = flags / 16 % 2 == 1

-- the part of an Establish, which was refused or not
unfoldable pub establish_at : Bool → Reading → Result (Establish × Reading) HeadFault
establish_at refused r = do
  client ← in_packet (guid_at r)
  server ← in_packet (guid_at client.1)
  stamp ← field_at 4 server.1
  reserved ← skipped 4 stamp.1
  filler ← skipped 512 reserved
  Ok (
    record {
      client = record { 0 = client.0 };
      server = record { 0 = server.0 };
      stamp = stamp.0;
      refused = refused;
    },
    filler,
  )

unfoldable pub parameters_at : Reading → Result (Parameters × Reading) HeadFault
parameters_at r = do
  storage_time ← field_at 4 r
  ack_time ← field_at 4 storage_time.1
  reserved ← skipped 2 ack_time.1
  window ← field_at 2 reserved
  Ok (record { storage_time = storage_time.0; ack_time = ack_time.0; window = window.0 }, window.1)

-- what stands behind the flags, two reserved bytes first
abbrev pub ack_from : Reading → Result (Internal × Reading) HeadFault
ack_from r = do
  reserved ← skipped 2 r
  head ← session_at reserved
  Ok (part.Ack head.0, head.1)

abbrev pub establish_from : Bool → Reading → Result (Internal × Reading) HeadFault
establish_from refused r = do
  reserved ← skipped 2 r
  establish ← establish_at refused reserved
  Ok (part.Establish establish.0, establish.1)

abbrev pub parameters_from : Reading → Result (Internal × Reading) HeadFault
parameters_from r = do
  reserved ← skipped 2 r
  parameters ← parameters_at reserved
  Ok (part.Parameters parameters.0, parameters.1)

-- the internal header and its part: a type that is none is a fault at the header's start
unfoldable pub internal_at : Reading → Result (Internal × Reading) HeadFault
internal_at r = do
  flags ← field_at 2 r
  if type_of flags.0 == 1 then ack_from flags.1
      else if type_of flags.0 == 2 then establish_from (is_refused flags.0) flags.1
      else if type_of flags.0 == 3 then parameters_from flags.1
      else fault_at r.at Kind

-- what stands at the end of an Establish and says nothing
unfoldable pub filler : List ℕ
filler = replicate 512 0x5A

abbrev pub plain_establish : Establish → List ℕ
plain_establish e =
    swapped e.client.0 ++ swapped e.server.0 ++ bytes_of 4 e.stamp ++ bytes_of 4 0 ++ filler

abbrev pub plain_parameters : Parameters → List ℕ
plain_parameters p =
    bytes_of 4 p.storage_time ++ bytes_of 4 p.ack_time ++ bytes_of 2 0 ++ bytes_of 2 p.window

-- the flags of a part: its type, and bit 4 where it is refused
abbrev pub flags_of : Internal → ℕ
flags_of (part.Ack head) = 1
flags_of (part.Establish e) = if e.refused then 2 + 16 else 2
flags_of (part.Parameters p) = 3

abbrev pub plain_part : Internal → List ℕ
plain_part (part.Ack head) = plain_session head
plain_part (part.Establish e) = plain_establish e
plain_part (part.Parameters p) = plain_parameters p

abbrev pub plain_internal : Internal → List ℕ
plain_internal part = bytes_of 2 (flags_of part) ++ bytes_of 2 0 ++ plain_part part
