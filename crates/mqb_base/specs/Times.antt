use Rattle.std.specs.Prelude.{ℕ, Bool, not, ◌+◌, ◌-◌, ◌==◌, ◌&&◌, nat_le, min, if◌then◌else◌}
use Rattle.mqb_base.specs.declared.times.TheConstants.{UNLIMITED}

-- the time that is left, between 0 and the greatest one that is finite
abbrev pub remaining : ℕ → ℕ → ℕ → ℕ
remaining moment reach now =
    if reach == UNLIMITED then UNLIMITED else min ((moment + reach) - now) (UNLIMITED - 1)

-- a finite time is over
abbrev pub is_due : ℕ → ℕ → ℕ → Bool
is_due moment life now = not (life == UNLIMITED) && nat_le (moment + life) now
