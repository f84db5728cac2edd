-- What was read, and how a replay ends.
use Rattle.std.proofs.Common.{ap, ◌≡◌, List, Option, inl, inr, refl, sym, subst, ◌∙◌, ℕ}
use Rattle.std.specs.Prelude.{Err, Ok, Result}
use Rattle.mqb_outside.specs.Disk.{View}
use Rattle.mqb_outside.specs.lemmas.Runs.{unchanged_none}
use Rattle.mqb_outside.specs.Told.{Took}
use Rattle.mqb_outside.specs.Faults.{Rose}
use Rattle.mqb_script.specs.Reading.{ReadsScript}
use Rattle.mqb_script.specs.Script.{script_of}
use Rattle.mqb_script.specs.declared.events.Event.{Event}
use Rattle.mqb_script.specs.declared.faults.ScriptFault.{ScriptFault}
use Rattle.mqb_script.specs.declared.faults.ScriptFault.TheVariants as script
use Rattle.mqb_commands.specs.Outputs.{TookFront}
use Rattle.mqb_commands.specs.Texts.{fault_text}
use Rattle.mqb_commands.specs.declared.status.Status.{Status}
use Rattle.mqb_replay.specs.Devices.{Devices, IsUncalled}
use Rattle.mqb_replay.specs.Faults.{fault_status, script_fault}
use Rattle.mqb_replay.specs.Replays.{Begins, Ends, EndsSo, IsScript, IsUntouched, PlaysWhole, Tells, TellsLine}
use Rattle.mqb_replay.specs.declared.faults.ReplayFault.{ReplayFault}
use Rattle.mqb_replay.specs.declared.faults.ReplayFault.TheVariants as fault

-- nothing was called
pub untouched : (b : Devices) (taken : Option (List ℕ)) → IsUntouched b b taken taken
untouched b taken = record { strings = refl; alpha = uncalled b.alpha; beta = uncalled b.beta; output = refl }
  where
    uncalled : (d : View) → IsUncalled d d
    uncalled d = record { unchanged = unchanged_none d; calls = refl; faults = refl; switch = refl }

-- there is no script, and nothing was done
unread : (text : List ℕ) (held rest : Option (List ℕ)) (b : Devices) (taken : Option (List ℕ)) (f : ScriptFault) (reads : ReadsScript script_of held rest (Err f)) → reads.text ≡ text
    → Ends reads.text rest b b taken taken (Err (script_fault f))
unread text held rest b taken (script.Line number kind) reads is =
    (record { short = reads.answers.0; few_lines = reads.answers.1; script = reads.answers.2; ended = reads.ended }, untouched b taken)
unread text held rest b taken script.TooLong reads is = (reads.answers, untouched b taken)
unread text held rest b taken script.TooManyLines reads is = ((reads.answers.0, reads.answers.1, reads.ended), untouched b taken)
unread text held rest b taken script.ReadFault reads is = (reads.answers, untouched b taken)
unread text held rest b taken script.Memory reads is = inl (reads.answers, untouched b taken)

pub not_read : (held rest : Option (List ℕ)) (b : Devices) (taken : Option (List ℕ)) (f : ScriptFault) → ReadsScript script_of held rest (Err f)
    → EndsSo held rest b b taken taken (Err (script_fault f))
not_read held rest b taken f reads = (reads.text, reads.gave, unread reads.text held rest b taken f reads refl)

-- a script was played
ends_by : (text : List ℕ) (rest : Option (List ℕ)) (b a : Devices) (before after : Option (List ℕ)) (lines : List (ℕ × Event)) (r : Result (Unit {0}) ReplayFault)
    → IsScript text rest lines → Begins (PlaysWhole lines) b a before after r → Ends text rest b a before after r
ends_by text rest b a before after lines (Err fault.Memory) is plays = inr (lines, is, plays)
ends_by text rest b a before after lines (Err (fault.Script number kind)) is plays = absurd plays.1
ends_by text rest b a before after lines (Err fault.TooLong) is plays = absurd plays.1
ends_by text rest b a before after lines (Err fault.TooManyLines) is plays = absurd plays.1
ends_by text rest b a before after lines (Err fault.ReadFault) is plays = absurd plays.1
ends_by text rest b a before after lines r is plays = (lines, is, plays)

-- The line of a fault.

line_is : (f : ReplayFault) (s : Status) (text : List ℕ) → s ≡ fault_status f → text ≡ fault_text s → text ≡ fault_text (fault_status f)
line_is f s text same is = is ∙ ap fault_text same

pub told_whole : (f : ReplayFault) (s : Status) (before after : Option (List ℕ)) (text : List ℕ) → s ≡ fault_status f → text ≡ fault_text s → Took before after text
    → TellsLine f before after (Err f)
told_whole f s before after text same is took = inl (refl, subst (Took before after) (line_is f s text same is) took)

pub told_cut : (f : ReplayFault) (s : Status) (before after : Option (List ℕ)) (text : List ℕ) → s ≡ fault_status f → text ≡ fault_text s → TookFront before after text
    → TellsLine f before after (Err fault.WriteFault)
told_cut f s before after text same is front = inr (inl (refl, subst (TookFront before after) (line_is f s text same is) front))

pub told_short : (f : ReplayFault) (taken : Option (List ℕ)) → TellsLine f taken taken (Err fault.Memory)
told_short f taken = inr (inr (refl, refl))

-- it has one but where the output failed or memory ran out
pub told_line : (why : ReplayFault) (before after : Option (List ℕ)) (r : Result (Unit {0}) ReplayFault) → (why ≡ fault.WriteFault → ⊥) → (why ≡ fault.Memory → ⊥)
    → TellsLine why before after r → Tells (Err why) before after r
told_line fault.WriteFault before after r no_write no_memory told = absurd (no_write refl)
told_line fault.Memory before after r no_write no_memory told = absurd (no_memory refl)
told_line why before after r no_write no_memory told = told

-- Which ends are told.

err_one : (f g : ReplayFault) → ◌≡◌ {A = Result (Unit {0}) ReplayFault} (Err f) (Err g) → f ≡ g
err_one f g is = cc

read_is : (f : ScriptFault) → script_fault f ≡ fault.ReadFault → f ≡ script.ReadFault
read_is script.ReadFault is = refl
read_is f is = absurd (let none : ⊥ = cc in none)

clash : (r : Result (Unit {0}) ReplayFault) (f g : ReplayFault) → r ≡ Err f → r ≡ Err g → (f ≡ g → ⊥) → ⊥
clash r f g one other apart = apart (err_one f g (sym one ∙ other))

-- and it is told only then
pub told_read : (end r : Result (Unit {0}) ReplayFault) (before after : Option (List ℕ)) → Tells end before after r → r ≡ Err fault.ReadFault → end ≡ Err fault.ReadFault
told_read (Ok done) r before after told is = sym told.0 ∙ is
told_read (Err fault.WriteFault) r before after told is = sym told.0 ∙ is
told_read (Err fault.Memory) r before after told is = sym told.0 ∙ is
told_read (Err why) r before after (inl told) is = sym told.0 ∙ is
told_read (Err why) r before after (inr (inl told)) is = absurd (clash r fault.WriteFault fault.ReadFault told.0 is (λ x. let none : ⊥ = cc in none))
told_read (Err why) r before after (inr (inr told)) is = absurd (clash r fault.Memory fault.ReadFault told.0 is (λ x. let none : ⊥ = cc in none))
