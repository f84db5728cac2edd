-- How an entry is written, where there is one, with what is done beside it, and what that comes to.
use Rattle.std.specs.Prelude.{[], ◌≡◌, Err, IfSome, None, Ok, Option, Result, is_some}
use Rattle.mqb_outside.specs.Disk.{View}
use Rattle.mqb_entries.specs.declared.entry.Entry.{Entry}
use Rattle.mqb_model.specs.laws.Keeping.{StaysValid}
use Rattle.mqb_model.specs.managers.Beside.{Beside}
use Rattle.mqb_model.specs.managers.Manager.{Manager}
use Rattle.mqb_model.specs.managers.Outcomes.{Outcome}
use Rattle.mqb_model.specs.records.Record.{Record}
use Rattle.mqb_store.specs.Writing.{CanWrite, LeavesStore, change_in}
use Rattle.mqb_store.specs.declared.faults.WriteFault.{WriteFault}
use Rattle.mqb_store.specs.declared.faults.WriteFault.TheVariants as fault
use Rattle.mqb_manager.specs.Calls.{CallsForRecord, IsCall}
use Rattle.mqb_manager.specs.States.{IsOnDisk, IsUp, ManagerState, manager_of}

-- the outcome of a call that writes a record, where there is one, and leaves what is
-- known of the connection
abbrev pub outcome_by : {A : Type 0} → Manager → Option Record → Beside → A → Outcome A
outcome_by m r b answer = record {
  answer = answer;
  touches = is_some r;
  entry = r;
  beside = b;
  rest = m.rest;
  packets = [];
}

-- the outcome of a write alone
abbrev pub write_of : Manager → Option Entry → Beside → Outcome (Result (Unit {0}) WriteFault)
write_of m entry b = outcome_by m (change_in entry) b (Ok tt)

-- A manager on a disk can write this.
pub record IsReady (d : View) (m : ManagerState) (entry : Option Entry) (b : Beside) : Type 0 where
  pub up : IsUp m
  pub on : IsOnDisk d m
  pub can : IfSome entry (CanWrite m.store.state)
  pub valid : StaysValid (manager_of m) (write_of (manager_of m) entry b)
  pub stored : LeavesStore m.store.state entry b

-- How this is written. `kept` says that the disk is as it was.
pub record WritesEntry (d e : View) (kept : Type 0) (m n : ManagerState) (entry : Option Entry)
    (b : Beside) (r : Result (Unit {0}) WriteFault) : Type 0 where
  pub call : IsCall fault.Memory fault.DiskFault d e m n (write_of (manager_of m) entry b) r
  pub untouched : entry ≡ None → kept
  pub memory : r ≡ Err fault.Memory → kept
  pub calls : CallsForRecord d e entry r

-- what a call answers whose record was written or not
abbrev pub answered : {V E : Type 0} → Result (Unit {0}) WriteFault → V → (memory broken : E)
    → Result V E
answered (Ok done) value memory broken = Ok value
answered (Err fault.Memory) value memory broken = Err memory
answered (Err fault.DiskFault) value memory broken = Err broken
