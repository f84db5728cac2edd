-- Whichever texts are scripts, the fault is the same where no text was read.
use Rattle.std.proofs.Common.{◌≡◌, ℕ, List, Option, Result, Ok, Err}
use Rattle.mqb_forms.specs.declared.faults.LineKind.{LineKind}
use Rattle.mqb_script.specs.declared.faults.ScriptFault.{ScriptFault}
use Rattle.mqb_script.specs.declared.faults.ScriptFault.TheVariants as fault
use Rattle.mqb_script.specs.Reading.{IsUnread, ReadsScript}

-- where each text is a script, no line fails
no_line : (text : List ℕ) (number : ℕ) (kind : LineKind) → ◌≡◌ {A = Result (Unit {0}) (ℕ × LineKind)} (Ok tt) (Err (number, kind)) → ⊥
no_line text number kind is = cc

pub unread : {T : Type 0} (script_of : List ℕ → Result T (ℕ × LineKind)) (before after : Option (List ℕ)) (f : ScriptFault) → IsUnread before after f
    → ReadsScript script_of before after (Err f)
unread script_of before after (fault.Line number kind) none =
    let reads = none (λ text. Ok tt) in absurd (no_line reads.text number kind reads.answers.2)
unread script_of before after fault.TooLong none =
    let reads = none (λ text. Ok tt) in record { text = reads.text; gave = reads.gave; answers = reads.answers; ended = reads.ended }
unread script_of before after fault.TooManyLines none =
    let reads = none (λ text. Ok tt) in record { text = reads.text; gave = reads.gave; answers = reads.answers; ended = reads.ended }
unread script_of before after fault.ReadFault none =
    let reads = none (λ text. Ok tt) in record { text = reads.text; gave = reads.gave; answers = reads.answers; ended = reads.ended }
unread script_of before after fault.Memory none =
    let reads = none (λ text. Ok tt) in record { text = reads.text; gave = reads.gave; answers = reads.answers; ended = reads.ended }
