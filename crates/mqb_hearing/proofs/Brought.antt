-- What brings no packet brings at most any one.
use Rattle.std.proofs.Common.{◌≡◌, ℕ, List, [], Ok, Err, Result, inl, inr}
use Rattle.std.specs.Prelude.{◌⊎◌}
use Rattle.mqb_base.specs.declared.answers.Memory.{Memory}
use Rattle.mqb_hearing.specs.Plans.{Brings}
use Rattle.mqb_hearing.specs.declared.hearing.Hearing.{Hearing}

none_or : (packet whole : List ℕ) → (packet ≡ []) ⊎ (packet ≡ []) → (packet ≡ []) ⊎ (packet ≡ whole)
none_or packet whole (inl none) = inl none
none_or packet whole (inr none) = inl none

pub brings_none : (r : Result Hearing Memory) (whole : List ℕ) → Brings [] r → Brings whole r
brings_none (Ok h) whole none = none_or h.arrival.packet whole none
brings_none (Err e) whole none = tt
