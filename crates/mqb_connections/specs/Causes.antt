-- Where the faults come from with which a command ends that serves connections.
use Rattle.std.specs.Prelude.{Bool, false, true}
use Rattle.mqb_serving.specs.declared.faults.ConnFault.{ConnFault}
use Rattle.mqb_serving.specs.declared.faults.ConnFault.TheVariants as fault
use Rattle.mqb_commands.specs.declared.status.Status.{Status}
use Rattle.mqb_commands.specs.declared.status.Status.TheVariants as status

-- the program ends with a net fault only by this cause
abbrev pub NetFaultHasCause : Type 0 → Status → Type 0
NetFaultHasCause cause status.NetFault = cause
NetFaultHasCause cause _ = Unit {0}

-- a half of the connection failed
abbrev pub is_lost : ConnFault → Bool
is_lost (fault.Peer why) = false
is_lost fault.ReadFault = true
is_lost fault.WriteFault = true
is_lost fault.DiskFault = false
is_lost fault.Memory = false

-- a command that serves over input and output ends so: never by its words, by a script, by a net,
-- or for want of room in a medium
abbrev pub IsProbeEnd : Status → Type 0
IsProbeEnd status.Usage = ⊥
IsProbeEnd (status.Script line kind) = ⊥
IsProbeEnd status.TooLong = ⊥
IsProbeEnd status.TooManyLines = ⊥
IsProbeEnd status.NetFault = ⊥
IsProbeEnd status.NetFull = ⊥
IsProbeEnd _ = Unit {0}

-- one that serves over a net reads no input
abbrev pub IsNetEnd : Status → Type 0
IsNetEnd status.Usage = ⊥
IsNetEnd (status.Script line kind) = ⊥
IsNetEnd status.TooLong = ⊥
IsNetEnd status.TooManyLines = ⊥
IsNetEnd status.ReadFault = ⊥
IsNetEnd status.NetFull = ⊥
IsNetEnd _ = Unit {0}

-- a manager that is open ends so, which has no store to open
abbrev pub IsLinkEnd : Status → Type 0
IsLinkEnd status.Done = Unit {0}
IsLinkEnd status.WriteFault = Unit {0}
IsLinkEnd status.DiskFault = Unit {0}
IsLinkEnd status.NetFault = Unit {0}
IsLinkEnd (status.Peer why) = Unit {0}
IsLinkEnd status.Memory = Unit {0}
IsLinkEnd status.Refused = Unit {0}
IsLinkEnd _ = ⊥
