-- What the program does.
use Rattle.std.specs.Prelude.{◌≡◌, ◌≢◌, ℕ, ◌≤◌, ◌⊎◌, List, length, Option, Some, Result, Ok, Err}
use Rattle.mqb_outside.specs.Faults.{Rose}
use Rattle.mqb_outside.specs.Told.{Gave, Took}
use Rattle.mqb_picture.specs.declared.faults.Kind.{Kind}
use Rattle.mqb_picture.specs.declared.faults.Kind.TheVariants.{TooLong}
use Rattle.mqb_picture.specs.declared.run.Status.{Status}
use Rattle.mqb_picture.specs.declared.run.Status.TheVariants as status
use Rattle.mqb_picture.specs.Input.{IsAtEnd}
use Rattle.mqb_picture.specs.Outputs.{LARGEST, answer_to, fault_text, read_fault_text}
use Rattle.mqb_picture.specs.Outputs.{output_of, TookFront}

-- the exit status of each end of the program
abbrev pub exit_of : Status → ℕ
exit_of status.Done = 0
exit_of (status.Input kind) = 3
exit_of status.ReadFault = 4
exit_of status.WriteFault = 5
exit_of status.Memory = 10

-- The text was written and the program ended so, or a front of it was, and the output failed.
abbrev pub Tells : List ℕ → Status → Option (List ℕ) → Option (List ℕ) → Status → Type 0
Tells text end before after r =
    ((r ≡ end) × Took before after text) ⊎ ((r ≡ status.WriteFault) × TookFront before after text)

-- The fault line was written, or memory ran out before.
abbrev pub TellsKind : Kind → Option (List ℕ) → Option (List ℕ) → Status → Type 0
TellsKind kind before after r = Tells (fault_text kind) (status.Input kind) before after r
    ⊎ ((r ≡ status.Memory) × (after ≡ before))

-- The picture of the whole input was written.
pub record IsDrawn (text : List ℕ) (rest before after : Option (List ℕ)) : Type 0 where
  pub svg : List ℕ
  pub answer : answer_to text ≡ Ok svg
  pub small : length svg ≤ LARGEST
  pub ended : IsAtEnd rest
  pub written : Took before after svg

-- The input has no picture, and the fault line says why. Of one that is too long a part was read.
pub record IsRefused (text : List ℕ) (rest before after : Option (List ℕ))
    (kind : Kind) : Type 0 where
  pub answer : answer_to text ≡ Err kind
  pub ended : kind ≢ TooLong → IsAtEnd rest
  pub written : Took before after (fault_text kind)

-- What each end says of the text that was taken from the input, what is left of that, and
-- what the output took.
abbrev pub Ends : List ℕ → (rest before after : Option (List ℕ)) → Status → Type 0
Ends text rest before after status.Done = IsDrawn text rest before after
Ends text rest before after (status.Input kind) = IsRefused text rest before after kind
Ends text rest before after status.ReadFault = Took before after read_fault_text
Ends text rest before after status.WriteFault =
    TookFront before after (output_of text) ⊎ TookFront before after read_fault_text
Ends text rest before after status.Memory = after ≡ before

-- The program, from what the input held and the output had taken before.
pub record Draws (held rest before after : Option (List ℕ)) (r : Status) : Type 0 where
  pub text : List ℕ
  pub gave : Gave held rest text
  pub ends : Ends text rest before after r

-- how the program ends where nothing outside fails
abbrev pub end_of : Result (List ℕ) Kind → Status
end_of (Ok svg) = status.Done
end_of (Err kind) = status.Input kind

-- Where neither the input nor the output failed, the program answers to all that the input held,
-- unless memory ran out.
abbrev pub Completes : Option (List ℕ) → (reads reads_now writes writes_now : ℕ) → Status → Type 0
Completes held reads reads_now writes writes_now r =
    (text : List ℕ) → held ≡ Some text → (Rose reads reads_now → ⊥) → (Rose writes writes_now → ⊥)
    → (r ≡ end_of (answer_to text)) ⊎ (r ≡ status.Memory)

-- the program ends with a read fault only where the input's count of faults rose
abbrev pub ReadFaultHasCause : ℕ → ℕ → Status → Type 0
ReadFaultHasCause before after status.ReadFault = Rose before after
ReadFaultHasCause before after _ = Unit {0}

-- and with a write fault only where the output's did
abbrev pub WriteFaultHasCause : ℕ → ℕ → Status → Type 0
WriteFaultHasCause before after status.WriteFault = Rose before after
WriteFaultHasCause before after _ = Unit {0}

-- an end that is no write fault
abbrev pub IsPlain : Status → Type 0
IsPlain status.WriteFault = ⊥
IsPlain _ = Unit {0}
