-- The marks that rise where packets go.
use Rattle.std.specs.Prelude.{List, None, Option, Some, filter_map, fold, if◌then◌else◌, max}
use Rattle.std.specs.Prelude.{nat_lt, ℕ}
use Rattle.mqb_entries.specs.declared.members.Mark.{Mark}
use Rattle.mqb_orders.specs.Rows.{Row}
use Rattle.mqb_model.specs.calls.pump.Pump.{number_of_row}
use Rattle.mqb_choosing.specs.declared.choice.Choice.{Choice}
use Rattle.mqb_choosing.specs.Choices.{origin_of}

-- the greatest number of a row among choices, or 0
abbrev pub greatest_chosen : List Choice → ℕ → ℕ
greatest_chosen choices index =
    fold max 0 (filter_map (λ c. number_of_row index (origin_of c.origin)) choices)

-- a row's mark, where this number is above the offered one
abbrev pub rising_mark : ℕ → Row → Option Mark
rising_mark greatest row = if nat_lt row.offered greatest
    then Some (record { ordinal = row.sequence.ordinal; number = greatest })
    else None
