-- What ends a replay.
use Rattle.std.specs.Prelude.{◌≡◌, ◌⊎◌, Err, Ok, Result, ℕ}
use Rattle.mqb_outside.specs.Faults.{Rose}
use Rattle.mqb_script.specs.declared.faults.ScriptFault.{ScriptFault}
use Rattle.mqb_script.specs.declared.faults.ScriptFault.TheVariants as script
use Rattle.mqb_commands.specs.declared.status.Status.{Status}
use Rattle.mqb_commands.specs.declared.status.Status.TheVariants as status
use Rattle.mqb_world.specs.declared.faults.WorldFault.{WorldFault}
use Rattle.mqb_world.specs.declared.faults.WorldFault.TheVariants as world
use Rattle.mqb_replay.specs.declared.faults.ReplayFault.{ReplayFault}
use Rattle.mqb_replay.specs.declared.faults.ReplayFault.TheVariants as fault

-- there is no script
abbrev pub script_fault : ScriptFault → ReplayFault
script_fault (script.Line number kind) = fault.Script number kind
script_fault script.TooLong = fault.TooLong
script_fault script.TooManyLines = fault.TooManyLines
script_fault script.ReadFault = fault.ReadFault
script_fault script.Memory = fault.Memory

-- what ends a world ends the replay
abbrev pub world_fault : WorldFault → ReplayFault
world_fault world.NotEmpty = fault.NotEmpty
world_fault world.DiskFault = fault.DiskFault
world_fault world.NetFull = fault.NetFull
world_fault world.Memory = fault.Memory

-- Where a fault of the output comes from.

-- only a fault of the output raises its count of faults
abbrev pub WriteCause : ℕ → ℕ → Result (Unit {0}) ReplayFault → Type 0
WriteCause before after (Err fault.WriteFault) = Rose before after
WriteCause before after _ = after ≡ before

-- A replay ends as its output failed where it had ended so, or fails now.
abbrev pub TellCause : ℕ → ℕ → (end r : Result (Unit {0}) ReplayFault) → Type 0
TellCause before after end r =
    r ≡ Err fault.WriteFault → ((end ≡ Err fault.WriteFault) × (after ≡ before)) ⊎ Rose before after

-- How the program ends then.

abbrev pub fault_status : ReplayFault → Status
fault_status (fault.Script line kind) = status.Script line kind
fault_status fault.TooLong = status.TooLong
fault_status fault.TooManyLines = status.TooManyLines
fault_status fault.ReadFault = status.ReadFault
fault_status fault.WriteFault = status.WriteFault
fault_status fault.NotEmpty = status.NotEmpty
fault_status fault.DiskFault = status.DiskFault
fault_status fault.NetFull = status.NetFull
fault_status fault.Memory = status.Memory

-- what ends a replay ends the program
abbrev pub status_of : Result (Unit {0}) ReplayFault → Status
status_of (Ok done) = status.Done
status_of (Err why) = fault_status why
