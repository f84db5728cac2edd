use Rattle.std.specs.Prelude.{ℕ}
use Rattle.mqb_commands.specs.declared.status.Status.{Status}
use Rattle.mqb_commands.specs.declared.status.Status.TheVariants.{Done, Usage, Script, TooLong}
use Rattle.mqb_commands.specs.declared.status.Status.TheVariants.{TooManyLines, ReadFault}
use Rattle.mqb_commands.specs.declared.status.Status.TheVariants.{WriteFault, DiskFault, NetFault}
use Rattle.mqb_commands.specs.declared.status.Status.TheVariants.{BadStore, NotEmpty, Peer, NetFull}
use Rattle.mqb_commands.specs.declared.status.Status.TheVariants.{Memory, Refused}

-- the exit status of each end of the program
abbrev pub exit_of : Status → ℕ
exit_of Done = 0
exit_of Usage = 2
exit_of (Script line kind) = 3
exit_of TooLong = 3
exit_of TooManyLines = 3
exit_of ReadFault = 4
exit_of WriteFault = 5
exit_of DiskFault = 6
exit_of NetFault = 7
exit_of (BadStore at) = 8
exit_of NotEmpty = 8
exit_of (Peer why) = 9
exit_of NetFull = 9
exit_of Memory = 10
exit_of Refused = 11
