-- Step by step a record comes to what it does to the state, exactly where it fits.
use Rattle.std.specs.Prelude.{◌≡◌, None, Some, if◌then◌else◌}
use Rattle.mqb_model.specs.records.Applying.{effect_of, fits}
use Rattle.mqb_model.specs.records.Record.{Record}
use Rattle.mqb_model.specs.records.Stepwise.{stepwise}
use Rattle.mqb_model.specs.state.State.{State}

-- the law
abbrev pub StepwiseIsEffect : Type 0
StepwiseIsEffect =
    (s : State) (r : Record) → stepwise s r ≡ (if fits s r then Some (effect_of s r) else None)
