-- Where the faults of the program come from.
use Rattle.std.specs.Prelude.{◌≡◌, Err, ℕ}
use Rattle.mqb_model.specs.declared.faults.CommitFault.TheVariants as fault
use Rattle.mqb_outside.specs.Faults.{Rose}
use Rattle.mqb_work.specs.Lines.{Answer}
use Rattle.mqb_work.specs.declared.status.WorkStatus.{WorkStatus}
use Rattle.mqb_work.specs.declared.status.WorkStatus.TheVariants as status

-- the program ends with a write fault only where the output's count of faults rose
abbrev pub WriteFaultHasCause : (before after : ℕ) → WorkStatus → Type 0
WriteFaultHasCause before after status.WriteFault = Rose before after
WriteFaultHasCause before after _ = Unit {0}

-- and with a disk fault only where the disk's did
abbrev pub DiskFaultHasCause : (before after : ℕ) → WorkStatus → Type 0
DiskFaultHasCause before after status.DiskFault = Rose before after
DiskFaultHasCause before after _ = Unit {0}

-- the disk failed exactly where the step says so
abbrev pub FailsAsSaid : (before after : ℕ) → Answer → Type 0
FailsAsSaid before after (Err fault.DiskFault) = Rose before after
FailsAsSaid before after _ = after ≡ before
