-- One step more of a loop.
use Rattle.std.proofs.Common.{◌≡◌, ℕ, ◌+◌, add-one, ap}
use Rattle.mqb_model.specs.Loops.{for_each_below, repeated}

pub repeated_more : {X : Type 0} (n : ℕ) (step : X → X) (x : X) → repeated (n + 1) step x ≡ step (repeated n step x)
repeated_more n step x = ap (λ (m : ℕ). repeated m step x) (add-one n)

pub each_more : {X : Type 0} (n : ℕ) (step : ℕ → X → X) (x : X) → for_each_below (n + 1) step x ≡ step n (for_each_below n step x)
each_more n step x = ap (λ (m : ℕ). for_each_below m step x) (add-one n)
