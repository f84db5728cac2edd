-- How the answer of a line ends, and the shell with it.
use Rattle.std.proofs.Common.{◌≡◌, ◌≢◌, ◌∙◌, Bool, List, None, Option, Some, cond, false, inl, inr, refl, subst, sym, true, ℕ}
use Rattle.std.specs.Prelude.{Err, IfErr, Ok, OnOk, Result, length, nat_le, ok_or}
use Rattle.mqb_commands.specs.Causes.{DiskFaultHasCause}
use Rattle.mqb_commands.specs.Outputs.{GoesOn, WriteFaultHasCause}
use Rattle.mqb_commands.specs.declared.status.Status.{Status}
use Rattle.mqb_commands.specs.declared.status.Status.TheVariants as status
use Rattle.mqb_outside.specs.Faults.{Rose}
use Rattle.mqb_outside.specs.Told.{Took}
use Rattle.mqb_shell.specs.Answered.{EndsAnswer}
use Rattle.mqb_shell.specs.Ends.{IsStop, ended_by}
use Rattle.mqb_shell.specs.Lines.{asked_in, end_line}
use Rattle.mqb_shell.specs.declared.asking.TheConstants.{MAX_LINE}
use Rattle.mqb_words.specs.Lines.{command_in}
use Rattle.mqb_words.specs.declared.commands.Command.{Command}

-- The faults of a line.

abbrev fault : Status → Result Command Status
fault why = Err why

abbrev command : Command → Result Command Status
command asked = Ok asked

faults : (P : Status → Type 0) (fits : Bool) (o : Option Command) (why : Status) → fault why ≡ cond fits (ok_or o status.Usage) (fault status.TooLong)
    → P status.Usage → P status.TooLong → P why
faults P true (Some asked) why is usage long = absurd (apart asked is)
  where
    apart : (asked : Command) → fault why ≡ command asked → ⊥
    apart asked is = cc
faults P true None why is usage long = let same : why ≡ status.Usage = cc in subst P (sym same) usage
faults P false o why is usage long = let same : why ≡ status.TooLong = cc in subst P (sym same) long

pub line_fault : (P : Status → Type 0) (line : List ℕ) (why : Status) → fault why ≡ asked_in line → P status.Usage → P status.TooLong → P why
line_fault P line why is usage long = faults P (nat_le (length line) MAX_LINE) (command_in line) why is usage long

-- The line that ends an answer was written.

module _ (end : Status) (other : end ≢ status.WriteFault) where
  pub ends_by : (before after : Option (List ℕ)) (r : Result (Unit {0}) Status) → OnOk r (GoesOn end) → IfErr r (λ why. (why ≡ end) × (GoesOn end → ⊥))
      → Took before after (end_line end) → EndsAnswer end before after r
  ends_by before after (Ok done) on off took = (on, took)
  ends_by before after (Err status.WriteFault) on off took = absurd (other (sym off.0))
  ends_by before after (Err why) on off took = (off.0, off.1, took)

  pub cause_by : (before after : ℕ) (r : Result (Unit {0}) Status) → IfErr r (λ why. (why ≡ end) × (GoesOn end → ⊥)) → WriteFaultHasCause before after (ended_by r)
  cause_by before after (Ok done) off = tt
  cause_by before after (Err status.WriteFault) off = absurd (other (sym off.0))
  cause_by before after (Err _) off = tt

-- What the end of an answer says of the line.

module _ (end : Status) (before after : Option (List ℕ)) where
  pub if_goes : {P : Type 0} (r : Result (Unit {0}) Status) → EndsAnswer end before after r → (GoesOn end → P) → OnOk r P
  if_goes (Ok done) ends then = then ends.0
  if_goes (Err why) ends then = tt

  pub is_stop : (r : Result (Unit {0}) Status) → EndsAnswer end before after r → IfErr r IsStop
  is_stop (Ok done) ends = tt
  is_stop (Err status.WriteFault) ends = tt
  is_stop (Err status.DiskFault) ends = tt
  is_stop (Err status.Memory) ends = tt
  is_stop (Err why) ends = absurd (ends.1 (subst GoesOn ends.0 tt))

  pub disk_by : (a b : ℕ) (r : Result (Unit {0}) Status) → EndsAnswer end before after r → DiskFaultHasCause a b end → DiskFaultHasCause a b (ended_by r)
  disk_by a b (Ok done) ends cause = tt
  disk_by a b (Err status.DiskFault) ends cause = subst (DiskFaultHasCause a b) (sym ends.0) cause
  disk_by a b (Err _) ends cause = tt

  -- where the output did not fail at the end, it had not failed before
  pub no_write_fault : (r : Result (Unit {0}) Status) → EndsAnswer end before after r → ended_by r ≢ status.WriteFault → end ≢ status.WriteFault
  no_write_fault (Ok done) ends other same = subst GoesOn same ends.0
  no_write_fault (Err status.WriteFault) ends other same = other refl
  no_write_fault (Err why) ends other same = other (ends.0 ∙ same)

  pub write_by : (a b c : ℕ) (r : Result (Unit {0}) Status) → EndsAnswer end before after r → WriteFaultHasCause a b end → (end ≢ status.WriteFault → b ≡ a)
      → (end ≢ status.WriteFault → WriteFaultHasCause b c (ended_by r)) → (end ≡ status.WriteFault → c ≡ b) → WriteFaultHasCause a c (ended_by r)
  write_by a b c (Ok done) ends cause calm rose again = tt
  write_by a b c (Err status.WriteFault) (inl failed) cause calm rose again =
      subst (λ (k : ℕ). Rose a k) (sym (again failed.0)) (subst (WriteFaultHasCause a b) failed.0 cause)
  write_by a b c (Err status.WriteFault) (inr cut) cause calm rose again = subst (λ (k : ℕ). Rose k c) (calm cut.0) (rose cut.0)
  write_by a b c (Err _) ends cause calm rose again = tt
