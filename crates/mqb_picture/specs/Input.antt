-- How an input is taken.
use Rattle.std.specs.Prelude.{◌≡◌, ℕ, ◌<◌, ◌≤◌, List, [], length, Option, IfSome}
use Rattle.mqb_outside.specs.Faults.{Rose}
use Rattle.mqb_outside.specs.Told.{Gave}
use Rattle.mqb_picture.specs.declared.input.InputFault.{InputFault}
use Rattle.mqb_picture.specs.declared.input.InputFault.TheVariants as fault

-- the greatest length of an input
abbrev pub LONGEST : ℕ
LONGEST = 1048576

-- where it is told what is left of an input, nothing is
abbrev pub IsAtEnd : Option (List ℕ) → Type 0
IsAtEnd rest = IfSome rest (λ left. left ≡ [])

-- All that a source held was taken, and it is no longer than an input may be.
pub record IsWhole (before after : Option (List ℕ)) (text : List ℕ) : Type 0 where
  pub short : length text ≤ LONGEST
  pub gave : Gave before after text
  pub ended : IsAtEnd after

-- a text that is too long was taken, where this is the fault
abbrev pub IsLongAt : InputFault → List ℕ → Type 0
IsLongAt fault.TooLong text = LONGEST < length text
IsLongAt fault.Failed text = length text ≤ LONGEST
IsLongAt fault.Memory text = length text ≤ LONGEST

-- A part of what a source held was taken.
pub record IsPart (before after : Option (List ℕ)) (fault : InputFault) : Type 0 where
  pub text : List ℕ
  pub gave : Gave before after text
  pub long : IsLongAt fault text

-- only a fault of the source raises its count of faults
abbrev pub InputCause : ℕ → ℕ → InputFault → Type 0
InputCause before after fault.Failed = Rose before after
InputCause before after fault.TooLong = after ≡ before
InputCause before after fault.Memory = after ≡ before
