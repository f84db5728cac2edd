-- What a replay works on beside its input and its output.
use Rattle.std.specs.Prelude.{◌≡◌, List, ℕ}
use Rattle.mqb_outside.specs.Disk.{Unchanged, View}

-- The strings of the medium, and the two disks.
pub record Devices : Type 1 where
  pub strings : List (List ℕ)
  pub alpha : View
  pub beta : View

abbrev pub devices : List (List ℕ) → (alpha beta : View) → Devices
devices strings alpha beta = record { strings = strings; alpha = alpha; beta = beta }

-- No call was made of a disk, and its power was left alone.
pub record IsUncalled (d e : View) : Type 0 where
  pub unchanged : Unchanged d e
  pub calls : e.calls ≡ d.calls
  pub faults : e.faults ≡ d.faults
  pub switch : e.switch ≡ d.switch
