-- What a part of an arrival does to a draft, where there is one that fits.
use Rattle.std.specs.Option.{option_map_or}
use Rattle.std.specs.Prelude.{◌*◌, ◌+◌, ◌≡◌, ◌≤◌, Bool, IsSomeAnd, Option, false, true, ℕ}
use Rattle.mqb_model.specs.records.Arrived.{part_fits, part_made}
use Rattle.mqb_model.specs.records.Counting.{named_in}
use Rattle.mqb_model.specs.records.Record.{Part}
use Rattle.mqb_model.specs.rules.Effects.{Effect}
use Rattle.mqb_model.specs.state.State.{State}

-- a part is there, and fits
abbrev pub is_part_fit : State → Option Part → Bool
is_part_fit s part = option_map_or (part_fits s) part false

-- It is there and fits, and what follows it was done.
abbrev pub IsPartMade : ℕ → Effect → Option Part → Effect → Type 0
IsPartMade now e part after =
    IsSomeAnd part (λ p. (part_fits e.state p ≡ true) × (after ≡ part_made now e p))

-- Few messages came in: at most three for each that the part names.
abbrev pub IsFewOf : State → Option Part → ℕ → ℕ → Type 0
IsFewOf s part before after = IsSomeAnd part (λ p. after ≤ before + 3 * named_in s p)
