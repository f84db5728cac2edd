-- The state that the records of a store stand for.
use Rattle.std.specs.Prelude.{◌∷◌, List, None, Option, Some, fold, if◌then◌else◌, option_and_then}
use Rattle.mqb_model.specs.records.Applying.{apply, fits}
use Rattle.mqb_model.specs.records.Record.{Record}
use Rattle.mqb_model.specs.records.Record as entry
use Rattle.mqb_model.specs.state.State.{State, empty}

-- a record that fits is applied
abbrev pub applied : State → Record → Option State
applied s r = if fits s r then Some (apply s r) else None

-- it is, behind others
abbrev pub applied_after : Option State → Record → Option State
applied_after s r = option_and_then (λ s. applied s r) s

-- the first record is an identity, and each other one fits what those before it leave
abbrev pub state_of : List Record → Option State
state_of (entry.Identity identity ∷ records) = fold applied_after (Some (empty identity)) records
state_of _ = None
