-- What the program does.
use Rattle.std.specs.Prelude.{◌≡◌, ◌∷◌, [], Bool, false, codes, IfSome, List, ◌⊎◌, Option, Result}
use Rattle.std.specs.Prelude.{Ok, Err, ℕ}
use Rattle.mqb_base.specs.Same.{same_bytes}
use Rattle.mqb_capture.specs.Verdicts.{Says}
use Rattle.mqb_capture.specs.declared.answers.InspectFault.{InspectFault}
use Rattle.mqb_capture.specs.declared.answers.InspectFault.TheVariants as fault
use Rattle.mqb_capture.specs.declared.answers.Verdict.{Verdict}
use Rattle.mqb_capture.specs.declared.answers.Verdict.TheVariants as verdict
use Rattle.mqb_inspect.specs.Outputs.{TookFront, verdict_text}
use Rattle.mqb_inspect.specs.Saying.{EndsInput}
use Rattle.mqb_inspect.specs.declared.run.InspectStatus.{InspectStatus}
use Rattle.mqb_inspect.specs.declared.run.InspectStatus.TheVariants as status
use Rattle.mqb_outside.specs.Faults.{Rose}
use Rattle.mqb_outside.specs.Told.{Took}

-- the exit status of each end of the program
abbrev pub exit_of : InspectStatus → ℕ
exit_of status.Lawful = 0
exit_of status.Usage = 2
exit_of (status.Capture at) = 3
exit_of status.ReadFault = 4
exit_of status.WriteFault = 5
exit_of status.TooMuch = 9
exit_of status.Memory = 10
exit_of status.Broken = 12

-- the words are `inspect`
abbrev pub is_inspect : List (List ℕ) → Bool
is_inspect (word ∷ []) = same_bytes word (codes "inspect")
is_inspect _ = false

-- how the program ends with a verdict
abbrev pub status_of : Verdict → InspectStatus
status_of (verdict.Lawful sent heard) = status.Lawful
status_of (verdict.Broken index why) = status.Broken

-- and without one
abbrev pub fault_status : InspectFault → InspectStatus
fault_status (fault.Capture at) = status.Capture at
fault_status fault.TooMuch = status.TooMuch
fault_status fault.ReadFault = status.ReadFault
fault_status fault.Memory = status.Memory

-- The line of a verdict was written; or a front of it was, and the output failed; or
-- memory ran out before.
abbrev pub TellsVerdict : Verdict → (before after : Option (List ℕ)) → InspectStatus → Type 0
TellsVerdict v before after r = ((r ≡ status_of v) × Took before after (verdict_text v))
    ⊎ (((r ≡ status.WriteFault) × TookFront before after (verdict_text v))
    ⊎ ((r ≡ status.Memory) × (after ≡ before)))

-- what is written of an answer
abbrev pub Tells : Result Verdict InspectFault → (before after : Option (List ℕ)) → InspectStatus
    → Type 0
Tells (Ok v) before after r = TellsVerdict v before after r
Tells (Err why) before after r = (r ≡ fault_status why) × (after ≡ before)

-- The program answers what is said of the input, where that is told.
pub record Inspects (held left before after : Option (List ℕ)) (r : InspectStatus) : Type 0 where
  pub answer : Result Verdict InspectFault
  pub says : IfSome held (λ bytes. Says bytes answer)
  pub ended : EndsInput answer left
  pub tells : Tells answer before after r

-- the program ends with a read fault only where the input's count of faults rose
abbrev pub ReadFaultHasCause : ℕ → ℕ → InspectStatus → Type 0
ReadFaultHasCause before after status.ReadFault = Rose before after
ReadFaultHasCause before after _ = Unit {0}

-- and with a write fault only where the output's did
abbrev pub WriteFaultHasCause : ℕ → ℕ → InspectStatus → Type 0
WriteFaultHasCause before after status.WriteFault = Rose before after
WriteFaultHasCause before after _ = Unit {0}
