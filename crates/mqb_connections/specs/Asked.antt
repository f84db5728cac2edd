-- How often a command asks the clock.
use Rattle.std.specs.Prelude.{◌+◌, ◌≡◌, ◌≤◌, ◌⊎◌, IfSome, List, Option, length, max, min, ℕ}
use Rattle.mqb_outside.specs.Net.{Ended}
use Rattle.mqb_outside.specs.Faults.{END}

-- a count rose by n, or as far as its end
abbrev pub RoseBy : ℕ → ℕ → ℕ → Type 0
RoseBy n before now = now ≡ max before (min (before + n) END)

-- A clock was asked once for each connection served, which were so many at most, and which the
-- net tells as finished.
pub record AsksForEach (count : ℕ) (ended ended_now : Option (List Ended))
    (asked asked_now : ℕ) : Type 0 where
  pub served : ℕ
  pub most : served ≤ count
  pub counted : RoseBy served asked asked_now
  pub finished :
      IfSome ended (λ before. IfSome ended_now (λ after. length after ≡ length before + served))

-- a clock was asked once at most
abbrev pub AsksOnce : (asked asked_now : ℕ) → Type 0
AsksOnce asked asked_now = (asked_now ≡ asked) ⊎ RoseBy 1 asked asked_now
