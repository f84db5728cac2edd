-- How a line of a shell ends, and the shell.
use Rattle.std.specs.Prelude.{Err, Ok, Result}
use Rattle.mqb_commands.specs.declared.status.Status.{Status}
use Rattle.mqb_commands.specs.declared.status.Status.TheVariants as status
use Rattle.mqb_serving.specs.declared.faults.PeerFault.TheVariants as peer

-- an end of a command that a manager does that is open, or a fault of a line
abbrev pub IsLineEnd : Status → Type 0
IsLineEnd status.Done = Unit {0}
IsLineEnd status.Usage = Unit {0}
IsLineEnd status.TooLong = Unit {0}
IsLineEnd status.WriteFault = Unit {0}
IsLineEnd status.DiskFault = Unit {0}
IsLineEnd status.NetFault = Unit {0}
IsLineEnd (status.Peer why) = Unit {0}
IsLineEnd status.Memory = Unit {0}
IsLineEnd status.Refused = Unit {0}
IsLineEnd _ = ⊥

-- an end of a line with which the shell ends
abbrev pub IsStop : Status → Type 0
IsStop status.DiskFault = Unit {0}
IsStop status.WriteFault = Unit {0}
IsStop status.Memory = Unit {0}
IsStop _ = ⊥

-- an end that says why no more is read
abbrev pub IsReadingEnd : Status → Type 0
IsReadingEnd status.ReadFault = Unit {0}
IsReadingEnd (status.Peer peer.PeerClosed) = Unit {0}
IsReadingEnd (status.Peer peer.TooMuch) = Unit {0}
IsReadingEnd _ = ⊥

-- the end of a shell, where one is said
abbrev pub ended_by : {A : Type 0} → Result A Status → Status
ended_by (Ok more) = status.Done
ended_by (Err end) = end
