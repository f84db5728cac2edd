-- Names in packets and stores.
use Rattle.std.specs.Prelude.{◌≡◌, ℕ, ◌+◌, ◌*◌, false, ◌==◌, ◌&&◌, nat_lt, is_some, IsSome, List}
use Rattle.std.specs.Prelude.{[], ◌∷◌, ◌++◌, length, take, drop, Option, Some, None, option_map}
use Rattle.std.specs.Prelude.{option_and_then, Result, Ok, Err, if◌then◌else◌}
use Rattle.std.specs.List.{flat_map}
use Rattle.std.specs.Result.{result_ok}
use Rattle.mqb_base.specs.declared.queue_names.Host.{Host}
use Rattle.mqb_base.specs.declared.queue_names.QueueName.{QueueName}
use Rattle.mqb_base.specs.declared.queue_names.QueueName.TheVariants.{Public, Private}
use Rattle.mqb_base.specs.declared.queue_names.QueueName.TheVariants.{Direct, Machine}
use Rattle.mqb_fields.specs.declared.faults.Short as fields
use Rattle.mqb_fields.specs.Guids.{swapped}
use Rattle.mqb_fields.specs.Reading.{◌>>=◌, Reading, rest_of, number_at, guid_at}
use Rattle.mqb_fields.specs.Writing.{bytes_of}
use Rattle.mqb_names.specs.declared.faults.PartFault.{PartFault}
use Rattle.mqb_names.specs.declared.wire.TheConstants.{MAX_DIRECT_UNITS}
use Rattle.mqb_names.specs.declared.wire.NameView.{NameView}
use Rattle.mqb_names.specs.declared.wire.WireFault.{WireFault}
use Rattle.mqb_names.specs.declared.wire.WireFault.TheVariants.{Short, Bad}
use Rattle.mqb_names.specs.Printed.{printed_direct}
use Rattle.mqb_names.specs.Reading.{direct_at}

-- the UTF-16 units of a text of ASCII characters
abbrev pub units : List ℕ → List ℕ
units text = flat_map (λ b. b ∷ 0 ∷ []) text

-- the text of units that are each below 0x80
abbrev pub text_of : List ℕ → Option (List ℕ)
text_of [] = Some []
text_of (low ∷ []) = None
text_of (low ∷ high ∷ rest) =
    if nat_lt low 0x80 && high == 0 then option_map (λ text. low ∷ text) (text_of rest) else None

-- the count of a text's units, and the units
abbrev pub direct_wire : List ℕ → List ℕ
direct_wire text = bytes_of 2 (length text) ++ units text

-- the type of a name
abbrev pub kind_of : QueueName → ℕ
kind_of (Public guid journal) = 1
kind_of (Private qm number journal) = 2
kind_of (Direct host queue journal) = 3
kind_of (Machine qm kind) = 0

-- the wire form of a name: a machine's queue has none
abbrev pub wire : QueueName → List ℕ
wire (Public guid journal) = swapped guid.0
wire (Private qm number journal) = swapped qm.0 ++ bytes_of 4 number
wire (Direct host queue journal) = direct_wire (printed_direct host queue)
wire (Machine qm kind) = []

-- bytes from their first one on
abbrev pub start : List ℕ → Reading
start bytes = record { bytes = bytes; at = 0 }

-- how many bytes a direct name has, by the count of its units, which is at most the greatest
abbrev pub direct_length : Result (ℕ × Reading) fields.Short → Result ℕ WireFault
direct_length (Ok x) = if nat_lt MAX_DIRECT_UNITS x.0 then Err Bad else Ok (2 + 2 * x.0)
direct_length (Err e) = Err Short

-- how many bytes a name of this type has that begins here
unfoldable pub length_at : ℕ → List ℕ → Result ℕ WireFault
length_at kind bytes = if kind == 1 then Ok 16
    else if kind == 2 then Ok 20
    else if kind == 3 then direct_length (number_at 2 (start bytes))
    else Err Bad

-- host and queue that are all of a text
abbrev pub whole : Result ((Host × List ℕ) × Reading) PartFault → Option (Host × List ℕ)
whole (Ok x) = if length (rest_of x.1) == 0 then Some x.0 else None
whole (Err e) = None

unfoldable pub direct_of : List ℕ → Option (Host × List ℕ)
direct_of text = whole (direct_at (start text))

abbrev pub public_from : Reading → Result QueueName fields.Short
public_from r = do
  guid ← guid_at r
  Ok (Public (record { 0 = guid.0 }) false)

abbrev pub private_from : Reading → Result QueueName fields.Short
private_from r = do
  qm ← guid_at r
  number ← number_at 4 qm.1
  Ok (Private (record { 0 = qm.0 }) number.0 false)

abbrev pub direct_from : List ℕ → Option QueueName
direct_from units = if nat_lt (2 * MAX_DIRECT_UNITS) (length units) then None
    else option_map (λ direct. Direct direct.0 direct.1 false)
    (option_and_then direct_of (text_of units))

-- the name whose wire form these bytes are
unfoldable pub spelled : ℕ → List ℕ → Option QueueName
spelled kind bytes = if kind == 1 then result_ok (public_from (start bytes))
    else if kind == 2 then result_ok (private_from (start bytes))
    else if kind == 3 then direct_from (drop 2 bytes)
    else None

-- these bytes, all of them, are the wire form of a name of this type
abbrev pub IsWireForm : ℕ → List ℕ → Type 0
IsWireForm kind bytes = (length_at kind bytes ≡ Ok (length bytes)) × IsSome (spelled kind bytes)

-- how many of the bytes are the wire form of a name of this type that stands at their front
abbrev pub wire_at : ℕ → List ℕ → Result ℕ WireFault
wire_at kind bytes = do
  len ← length_at kind bytes
  if nat_lt (length bytes) len then Err Short else if is_some (spelled kind (take len bytes))
      then Ok len else Err Bad

-- the count of bytes of what was found
abbrev pub used : Result (NameView × ℕ) WireFault → Result ℕ WireFault
used (Ok found) = Ok found.1
used (Err fault) = Err fault
