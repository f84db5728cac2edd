-- What a record does to a draft, where there is one that fits.
use Rattle.std.specs.Prelude.{◌*◌, ◌+◌, ◌≡◌, ◌≤◌, IsSomeAnd, Option, true, ℕ}
use Rattle.mqb_model.specs.records.Applying.{effect_of, fits}
use Rattle.mqb_model.specs.records.Counting.{named_count}
use Rattle.mqb_model.specs.records.Record.{Record}
use Rattle.mqb_model.specs.rules.Effects.{Effect, joined}
use Rattle.mqb_model.specs.state.State.{State}

-- The record is there and fits, and it was done.
abbrev pub IsApplied : Effect → Option Record → Effect → Type 0
IsApplied e r after =
    IsSomeAnd r (λ r. (fits e.state r ≡ true) × (after ≡ joined e (effect_of e.state r)))

-- Few messages came in: at most three for each that the record names.
abbrev pub IsFew : State → Option Record → ℕ → ℕ → Type 0
IsFew s r before after = IsSomeAnd r (λ r. after ≤ before + 3 * named_count s r)
