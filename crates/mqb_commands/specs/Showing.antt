-- What was shown of an input before its fault line is written.
use Rattle.std.specs.Prelude.{◌≡◌, ◌≢◌, ◌≤◌, Err, List, Ok, Option, Result, length, ℕ}
use Rattle.mqb_outside.specs.Faults.{Rose}
use Rattle.mqb_outside.specs.Told.{Gave, Took}
use Rattle.mqb_serving.specs.declared.limits.TheConstants.{MAX_READ}
use Rattle.mqb_stream.specs.Cutting.{joined}
use Rattle.mqb_commands.specs.Outputs.{IsFaultLine, Says, TookFront}
use Rattle.mqb_commands.specs.declared.status.Status.{Status}
use Rattle.mqb_commands.specs.declared.status.Status.TheVariants as status
use Rattle.mqb_commands.specs.declared.shown_faults.ShowFault.{ShowFault}
use Rattle.mqb_commands.specs.declared.shown_faults.ShowFault.TheVariants as fault
use Rattle.mqb_commands.specs.Cuts.{IsCut}
use Rattle.mqb_commands.specs.Lines.{lines_from}
use Rattle.mqb_commands.specs.Shown.{EndsBehind}

-- the end that a fault is
abbrev pub status_of : ShowFault → Status
status_of (fault.Peer why) = status.Peer why
status_of fault.ReadFault = status.ReadFault
status_of fault.WriteFault = status.WriteFault
status_of fault.Memory = status.Memory

-- what was written, and why it ended behind packets that are `place` bytes
abbrev pub EndsWith : (place : ℕ) (rest lines : List ℕ) → (left before after : Option (List ℕ))
    → Result (Unit {0}) ShowFault → Type 0
EndsWith place rest lines left before after (Ok done) =
    EndsBehind place rest left status.Done × Took before after lines
EndsWith place rest lines left before after (Err fault.WriteFault) = TookFront before after lines
EndsWith place rest lines left before after (Err fault.Memory) = TookFront before after lines
EndsWith place rest lines left before after (Err why) =
    EndsBehind place rest left (status_of why) × Took before after lines

-- The packets at the front of what an input gave were shown, up to a fault.
pub record ShowsAll (held left before after : Option (List ℕ))
    (r : Result (Unit {0}) ShowFault) : Type 0 where
  pub bytes : List ℕ
  pub most : length bytes ≤ MAX_READ
  pub packets : List (List ℕ)
  pub rest : List ℕ
  pub gave : Gave held left bytes
  pub cut : IsCut bytes packets rest
  pub ends : EndsWith (length (joined packets)) rest (lines_from 0 packets) left before after r

-- each fault comes only where its count rose
pub record ShowCauses (reads reads_now writes writes_now : ℕ)
    (r : Result (Unit {0}) ShowFault) : Type 0 where
  pub read : r ≡ Err fault.ReadFault → Rose reads reads_now
  pub write : r ≡ Err fault.WriteFault → Rose writes writes_now
  pub quiet : r ≢ Err fault.WriteFault → writes_now ≡ writes

-- the fault line was written, where there is one
abbrev pub Stopped : ShowFault → (before after : Option (List ℕ)) → Status → Type 0
Stopped fault.WriteFault before after r = (r ≡ status.WriteFault) × (after ≡ before)
Stopped fault.Memory before after r = (r ≡ status.Memory) × (after ≡ before)
Stopped why before after r = Says (IsFaultLine (status_of why)) before after r
