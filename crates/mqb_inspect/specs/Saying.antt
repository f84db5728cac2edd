-- What is said of a capture, and what was read of it.
use Rattle.std.specs.Prelude.{◌≡◌, ◌+◌, ◌==◌, List, Option, Result, Ok, Err, if◌then◌else◌, length}
use Rattle.std.specs.Prelude.{nat_le, not, ℕ}
use Rattle.mqb_capture.specs.declared.answers.BreakCause.TheVariants as cause
use Rattle.mqb_capture.specs.declared.answers.InspectFault.{InspectFault}
use Rattle.mqb_capture.specs.declared.answers.InspectFault.TheVariants as fault
use Rattle.mqb_capture.specs.declared.answers.TheConstants.{MAX_CAPTURE}
use Rattle.mqb_capture.specs.declared.answers.Verdict.{Verdict}
use Rattle.mqb_capture.specs.declared.answers.Verdict.TheVariants as verdict
use Rattle.mqb_inspect.specs.Input.{IsAtEnd}
use Rattle.mqb_inspect.specs.Standing.{holds_rest}
use Rattle.mqb_inspect.specs.declared.standing.Inspection.{Inspection}
use Rattle.mqb_outside.specs.Faults.{Rose}

-- what is said behind lawful pieces, where these bytes are left, in which no piece
-- stands, as a place tells
abbrev pub said_behind : Inspection → (left : List ℕ) → (place : ℕ) → Result Verdict InspectFault
said_behind i left place = if nat_le MAX_CAPTURE place then Err fault.TooMuch
    else if not (length left == 0) then Err (fault.Capture place)
    else if holds_rest i then Ok (verdict.Broken (i.sent_count + i.heard_count) cause.Cut)
    else Ok (verdict.Lawful i.sent_count i.heard_count)

-- a capture that is lawful, or of which only a rest is left, was read to its end
abbrev pub EndsInput : Result Verdict InspectFault → (left : Option (List ℕ)) → Type 0
EndsInput (Ok (verdict.Lawful sent heard)) left = IsAtEnd left
EndsInput (Ok (verdict.Broken index cause.Cut)) left = IsAtEnd left
EndsInput _ left = Unit {0}

-- a read fault comes only where the input's count of faults rose, which otherwise stays
abbrev pub ReadFaultHasCause : ℕ → ℕ → Result Verdict InspectFault → Type 0
ReadFaultHasCause before after (Err fault.ReadFault) = Rose before after
ReadFaultHasCause before after _ = after ≡ before
