-- Where the faults of a command come from.
use Rattle.std.specs.Prelude.{Bool, false, true, ℕ}
use Rattle.mqb_journal.specs.declared.faults.OpenFault.{OpenFault}
use Rattle.mqb_journal.specs.declared.faults.OpenFault.TheVariants as opening
use Rattle.mqb_outside.specs.Faults.{Rose}
use Rattle.mqb_commands.specs.declared.status.Status.{Status}
use Rattle.mqb_commands.specs.declared.status.Status.TheVariants as status

-- the end that a fault of opening is
abbrev pub open_status : OpenFault → Status
open_status opening.NotEmpty = status.NotEmpty
open_status (opening.BadStore at) = status.BadStore at
open_status opening.Memory = status.Memory
open_status opening.DiskFault = status.DiskFault

abbrev pub is_disk_fault : Status → Bool
is_disk_fault status.DiskFault = true
is_disk_fault _ = false

-- the program ends with a disk fault only where the disk's count of faults rose
abbrev pub DiskFaultHasCause : ℕ → ℕ → Status → Type 0
DiskFaultHasCause before after status.DiskFault = Rose before after
DiskFaultHasCause before after _ = Unit {0}
