-- What a command says, how it ends, and what an output takes of that.
use Rattle.std.specs.Prelude.{[], ◌≡◌, ◌⊎◌, List, Option, ℕ}
use Rattle.mqb_outside.specs.Faults.{Rose}
use Rattle.mqb_outside.specs.Told.{Took}
pub use Rattle.mqb_serving.specs.Steps.{TookFront}
use Rattle.mqb_commands.specs.declared.status.Status.{Status}
use Rattle.mqb_commands.specs.declared.status.Status.TheVariants as status
use Rattle.mqb_commands.specs.Texts.{fault_text}

-- The text was written and the program ended so, or a front of it was, and the output failed.
abbrev pub Tells : List ℕ → Status → Option (List ℕ) → Option (List ℕ) → Status → Type 0
Tells text end before after r =
    ((r ≡ end) × Took before after text) ⊎ ((r ≡ status.WriteFault) × TookFront before after text)

-- A command said what is meant, and ended so. Where it had nothing to say, no output failed.
pub record Says (meant : List ℕ → Status → Type 0) (before after : Option (List ℕ))
    (r : Status) : Type 0 where
  pub text : List ℕ
  pub end : Status
  pub means : meant text end
  pub told : Tells text end before after r
  pub some : text ≡ [] → r ≡ end

-- a line and the end behind it, or memory ran out
abbrev pub IsSaid : (line : List ℕ) → (meant : Status) → (text : List ℕ) → (end : Status) → Type 0
IsSaid line meant text end = ((end ≡ meant) × (text ≡ line)) ⊎ ((end ≡ status.Memory) × (text ≡ []))

-- the fault line of an end, or memory ran out
abbrev pub IsFaultLine : Status → List ℕ → Status → Type 0
IsFaultLine fault text end = IsSaid (fault_text fault) fault text end

-- the program ends with a read fault only where the input's count of faults rose
abbrev pub ReadFaultHasCause : ℕ → ℕ → Status → Type 0
ReadFaultHasCause before after status.ReadFault = Rose before after
ReadFaultHasCause before after _ = Unit {0}

-- the program ends with a write fault only where the output's count of faults rose
abbrev pub WriteFaultHasCause : ℕ → ℕ → Status → Type 0
WriteFaultHasCause before after status.WriteFault = Rose before after
WriteFaultHasCause before after _ = Unit {0}

-- a manager that is open goes on behind such an end of a command, and behind no other
abbrev pub GoesOn : Status → Type 0
GoesOn status.DiskFault = ⊥
GoesOn status.WriteFault = ⊥
GoesOn status.Memory = ⊥
GoesOn _ = Unit {0}

-- an end of an answer of a manager that is open, which asks nothing of its disk
abbrev pub IsLookEnd : Status → Type 0
IsLookEnd status.Done = Unit {0}
IsLookEnd status.Refused = Unit {0}
IsLookEnd status.Memory = Unit {0}
IsLookEnd _ = ⊥

-- an end of any answer of one
abbrev pub IsAnswerEnd : Status → Type 0
IsAnswerEnd status.Done = Unit {0}
IsAnswerEnd status.Refused = Unit {0}
IsAnswerEnd status.DiskFault = Unit {0}
IsAnswerEnd status.Memory = Unit {0}
IsAnswerEnd _ = ⊥

-- an end that is no write fault
abbrev pub IsPlain : Status → Type 0
IsPlain status.WriteFault = ⊥
IsPlain _ = Unit {0}
