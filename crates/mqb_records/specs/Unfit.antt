-- Which entries do not fit a state.
use Rattle.std.specs.Prelude.{◌≡◌, Bool, Option, None, Some, false}
use Rattle.mqb_entries.specs.declared.entry.Entry.{Entry}
use Rattle.mqb_model.specs.records.Applying.{fits}
use Rattle.mqb_model.specs.records.Reading.{record_in}
use Rattle.mqb_model.specs.records.Record.{Record}
use Rattle.mqb_model.specs.state.State.{State}

-- a record is there, and fits
abbrev pub is_fit : State → Option Record → Bool
is_fit s None = false
is_fit s (Some r) = fits s r

-- An entry is no record, or one that does not fit a state.
abbrev pub IsUnfit : State → Entry → Type 0
IsUnfit s entry = is_fit s (record_in entry) ≡ false
