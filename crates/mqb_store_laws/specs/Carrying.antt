-- What carries the condition of a state on a disk from call to call.
use Rattle.std.specs.Prelude.{◌≡◌, List, Some, true, ℕ}
use Rattle.mqb_model.specs.records.Applying.{fits}
use Rattle.mqb_model.specs.records.Reading.{record_of}
use Rattle.mqb_model.specs.records.Record.{Record}
use Rattle.mqb_model.specs.state.State.{State}
use Rattle.mqb_model.specs.state.Valid.{IsValidState}

-- The entry of a record that fits.
pub record Joins (s : State) (entry : List ℕ) (r : Record) : Type 0 where
  pub valid : IsValidState s
  pub reads : record_of entry ≡ Some r
  pub fits : fits s r ≡ true
