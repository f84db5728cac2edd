-- What is written, and what a failed write leaves.
use Rattle.std.specs.Option.{option_map_or}
use Rattle.std.specs.Prelude.{◌≡◌, ◌≤◌, Bool, IsSomeAnd, List, Option, false, length}
use Rattle.std.specs.Prelude.{option_and_then, true}
use Rattle.mqb_base.specs.declared.ledger.Line.{Line}
use Rattle.mqb_entries.specs.SpelledEntries.{Fits, spelled}
use Rattle.mqb_entries.specs.declared.entry.Entry.{Entry}
use Rattle.mqb_model.specs.declared.limits.TheConstants.{MAX_RECORD}
use Rattle.mqb_model.specs.managers.Beside.{Beside, beside_done}
use Rattle.mqb_model.specs.managers.Outcomes.{recorded}
use Rattle.mqb_model.specs.records.Applying.{fits, lines_of}
use Rattle.mqb_model.specs.records.Reading.{record_in}
use Rattle.mqb_model.specs.records.Record.{Record}
use Rattle.mqb_model.specs.state.Durable.{durable}
use Rattle.mqb_model.specs.state.State.{State}
use Rattle.mqb_store.specs.declared.faults.WriteFault.{WriteFault}
use Rattle.mqb_store.specs.declared.faults.WriteFault.TheVariants as fault

-- the record that is written, where an entry is
abbrev pub change_in : Option Entry → Option Record
change_in entry = option_and_then record_in entry

-- an entry can be written: it can be spelled, is no longer than a record may be, and
-- is a record that fits
pub record CanWrite (s : State) (entry : Entry) : Type 0 where
  pub put : Fits entry
  pub small : length (spelled entry) ≤ MAX_RECORD
  pub fits : IsSomeAnd (record_in entry) (λ r. fits s r ≡ true)

-- what a write leaves of a state: that of the record, where there is one, and then
-- what is done beside it
abbrev pub written : State → Option Entry → Beside → State
written s entry b = beside_done b (recorded s (change_in entry))

-- what is done beside it leaves what the store stands for
abbrev pub LeavesStore : State → Option Entry → Beside → Type 0
LeavesStore s entry b = durable (written s entry b) ≡ durable (recorded s (change_in entry))

-- the lines of the last record: where none is written, those of the one before
abbrev pub lines_then : State → List Line → Option Entry → List Line
lines_then s lines entry = option_map_or (lines_of s) (change_in entry) lines

-- a call of the disk failed
abbrev pub write_failed : WriteFault → Bool
write_failed fault.Memory = false
write_failed fault.DiskFault = true
