-- Loops.
use Rattle.std.specs.Prelude.{suc, zero, ℕ}

-- a step is made so many times
abbrev pub repeated : {X : Type 0} → ℕ → (X → X) → X → X
repeated zero step x = x
repeated (suc count) step x = step (repeated count step x)

-- a step is made with each number below a count in turn, from 0 on
abbrev pub for_each_below : {X : Type 0} → ℕ → (ℕ → X → X) → X → X
for_each_below zero step x = x
for_each_below (suc count) step x = step count (for_each_below count step x)
