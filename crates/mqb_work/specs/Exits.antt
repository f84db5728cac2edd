-- How the program ends.
use Rattle.std.specs.Prelude.{ℕ}
use Rattle.mqb_commands.specs.declared.status.Status.{Status}
use Rattle.mqb_commands.specs.declared.status.Status.TheVariants as status
use Rattle.mqb_work.specs.declared.status.WorkStatus.{WorkStatus}
use Rattle.mqb_work.specs.declared.status.WorkStatus.TheVariants as end

-- its exit status
abbrev pub exit_of : WorkStatus → ℕ
exit_of end.Done = 0
exit_of end.Usage = 2
exit_of end.WriteFault = 5
exit_of end.DiskFault = 6
exit_of (end.BadStore at) = 8
exit_of end.Memory = 10
exit_of end.Refused = 11

-- the end of one whose store is not opened
abbrev pub unopened : Status → WorkStatus
unopened (status.BadStore at) = end.BadStore at
unopened status.DiskFault = end.DiskFault
unopened _ = end.Memory
