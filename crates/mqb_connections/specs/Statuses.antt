-- How the program ends by the end of its one connection.
use Rattle.std.specs.Prelude.{Err, Ok}
use Rattle.mqb_serving.specs.Serving.{Answer}
use Rattle.mqb_serving.specs.declared.faults.ConnFault.TheVariants as fault
use Rattle.mqb_commands.specs.declared.status.Status.{Status}
use Rattle.mqb_commands.specs.declared.status.Status.TheVariants as status

abbrev pub reach_status : Answer → Status
reach_status (Ok done) = status.Done
reach_status (Err (fault.Peer why)) = status.Peer why
reach_status (Err fault.ReadFault) = status.NetFault
reach_status (Err fault.WriteFault) = status.NetFault
reach_status (Err fault.DiskFault) = status.DiskFault
reach_status (Err fault.Memory) = status.Memory

abbrev pub probe_status : Answer → Status
probe_status (Ok done) = status.Done
probe_status (Err (fault.Peer why)) = status.Peer why
probe_status (Err fault.ReadFault) = status.ReadFault
probe_status (Err fault.WriteFault) = status.WriteFault
probe_status (Err fault.DiskFault) = status.DiskFault
probe_status (Err fault.Memory) = status.Memory

-- no device failed: the work was done or refused, or a peer ended its connection
-- badly, or memory ran out
abbrev pub IsFaultless : Status → Type 0
IsFaultless status.Done = Unit {0}
IsFaultless (status.Peer why) = Unit {0}
IsFaultless status.Refused = Unit {0}
IsFaultless status.Memory = Unit {0}
IsFaultless _ = ⊥
