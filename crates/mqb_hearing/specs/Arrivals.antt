-- What arrived, as the record that tells of it, and the bytes of its packet.
use Rattle.std.specs.Prelude.{[], ◌==◌, ◌≤◌, IsSome, List, None, Option, Some, if◌then◌else◌}
use Rattle.std.specs.Prelude.{length, unwrap_or, ℕ}
use Rattle.mqb_entries.specs.declared.entry.ArrivedPart.{ArrivedPart}
use Rattle.mqb_entries.specs.declared.entry.ArrivedPart.TheVariants as part
use Rattle.mqb_entries.specs.declared.entry.Entry.{Entry}
use Rattle.mqb_entries.specs.declared.entry.Entry.TheVariants as form
use Rattle.mqb_heads.specs.declared.base.TheConstants.{MAX_PACKET}
use Rattle.mqb_model.specs.declared.limits.TheConstants.{MAX_RELEASED}
use Rattle.mqb_model.specs.records.Reading.{part_of}
use Rattle.mqb_model.specs.records.Record.{Nothing, Part, Record}
use Rattle.mqb_model.specs.records.Record as entry

-- the part that an entry shows, where its packet is one
abbrev pub part_shown : ArrivedPart → Part
part_shown part = unwrap_or (part_of part) Nothing

-- the record of released numbers and of what arrived: none, where both are nothing
abbrev pub arrival_of : ℕ → List ℕ → Part → Option Record
arrival_of now numbers Nothing =
    if length numbers == 0 then None else Some (entry.Arrived now numbers Nothing)
arrival_of now numbers part = Some (entry.Arrived now numbers part)

-- the bytes of a part's packet
abbrev pub bytes_in : ArrivedPart → List ℕ
bytes_in (part.Decided bytes) = bytes
bytes_in (part.Stored bytes) = bytes
bytes_in (part.Final bytes) = bytes
bytes_in _ = []

-- the bytes of the packet that arrived, where an entry tells of one
abbrev pub bytes_of_packet : Entry → List ℕ
bytes_of_packet (form.Arrived now released part) = bytes_in part
bytes_of_packet _ = []

-- What arrived: the record that tells of it, or none, and the bytes of its
-- packet, where there is one.
pub record Arrived : Type 0 where
  pub written : Option Record
  pub packet : List ℕ

-- at a moment, with released numbers, as a part of an entry
abbrev pub arrived_as : ℕ → List ℕ → ArrivedPart → Arrived
arrived_as now numbers part =
    record { written = arrival_of now numbers (part_shown part); packet = bytes_in part }

-- Its packet was read, and is not longer than one can be.
pub record IsPartRead (part : ArrivedPart) : Type 0 where
  pub read : IsSome (part_of part)
  pub size : length (bytes_in part) ≤ MAX_PACKET

-- It can be put as an entry.
pub record IsArrival (numbers : List ℕ) (part : ArrivedPart) : Type 0 where
  pub few : length numbers ≤ MAX_RELEASED
  pub packet : IsPartRead part
