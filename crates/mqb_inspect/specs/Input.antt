-- How the bytes of a capture are taken.
use Rattle.std.specs.Prelude.{◌≡◌, ◌<◌, ◌≤◌, ℕ, List, [], length, Option, IfSome, Result, Err}
use Rattle.mqb_capture.specs.declared.answers.TheConstants.{MAX_CAPTURE}
use Rattle.mqb_inspect.specs.declared.input.InputFault.{InputFault}
use Rattle.mqb_inspect.specs.declared.input.InputFault.TheVariants as fault
use Rattle.mqb_outside.specs.Faults.{Rose}
use Rattle.mqb_outside.specs.Told.{Gave}

-- where it is told what is left of an input, nothing is
abbrev pub IsAtEnd : Option (List ℕ) → Type 0
IsAtEnd rest = IfSome rest (λ left. left ≡ [])

-- So many bytes as are looked at were taken, or fewer, which were all that a source held.
pub record IsTaken (before after : Option (List ℕ)) (text : List ℕ) : Type 0 where
  pub most : length text ≤ MAX_CAPTURE
  pub gave : Gave before after text
  pub ended : length text < MAX_CAPTURE → IsAtEnd after

-- only a fault of the source raises its count of faults
abbrev pub InputCause : {T : Type 0} → ℕ → ℕ → Result T InputFault → Type 0
InputCause before after (Err fault.Failed) = Rose before after
InputCause before after _ = after ≡ before
