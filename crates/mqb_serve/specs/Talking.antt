-- The manager of a connection with its records, and what the steps of a
-- connection leave of its disk.
use Rattle.std.specs.Prelude.{Err, None, Ok, Option, Result, Some, cond, ℕ}
use Rattle.mqb_base.specs.declared.heard.Heard.{Heard}
use Rattle.mqb_outside.specs.Disk.{View}
use Rattle.mqb_journal.specs.Causes.{FaultsAsSaid}
use Rattle.mqb_model.specs.declared.faults.HearFault.{HearFault}
use Rattle.mqb_model.specs.declared.faults.HearFault.TheVariants as hear_fault
use Rattle.mqb_model.specs.declared.faults.PumpFault.{PumpFault}
use Rattle.mqb_model.specs.declared.faults.PumpFault.TheVariants as pump_fault
use Rattle.mqb_serving.specs.Conversations.{StoredManager}
use Rattle.mqb_serving.specs.declared.faults.ConnFault.{ConnFault}
use Rattle.mqb_serving.specs.declared.faults.ConnFault.TheVariants as fault
use Rattle.mqb_manager.specs.States.{IsUp, ManagerState, manager_of}
use Rattle.mqb_serving.specs.Serving.{is_disk_fault}
use Rattle.mqb_manager.specs.Keeping.{KeepsDisk}

-- the manager that it is, with as many records as its journal has
abbrev pub stored_of : ManagerState → StoredManager
stored_of m = record { manager = manager_of m; count = m.store.journal.count }

-- a manager is up, unless the disk failed
abbrev pub UpUnless : {T : Type 0} → Result T ConnFault → ManagerState → Type 0
UpUnless (Ok done) n = IsUp n
UpUnless (Err why) n = cond (is_disk_fault why) (Unit {0}) (IsUp n)

-- Steps of a manager over a disk, from before them to behind them.
pub record Keeps {T : Type 0} (d e : View) (m n : ManagerState)
    (r : Result T ConnFault) : Type 0 where
  pub disk : KeepsDisk d e m n
  pub up : UpUnless r n
  pub faults : FaultsAsSaid is_disk_fault d.faults e.faults r

-- The fault of a call that was not made.

abbrev pub stopped_pumping : Result ℕ PumpFault → Option ConnFault
stopped_pumping (Ok count) = None
stopped_pumping (Err pump_fault.Down) = None
stopped_pumping (Err pump_fault.NotLinked) = None
stopped_pumping (Err pump_fault.Spent) = None
stopped_pumping (Err pump_fault.Memory) = Some fault.Memory
stopped_pumping (Err pump_fault.DiskFault) = Some fault.DiskFault

abbrev pub stopped_hearing : Result Heard HearFault → Option ConnFault
stopped_hearing (Ok heard) = None
stopped_hearing (Err hear_fault.Down) = None
stopped_hearing (Err hear_fault.NotLinked) = None
stopped_hearing (Err hear_fault.Memory) = Some fault.Memory
stopped_hearing (Err hear_fault.DiskFault) = Some fault.DiskFault
