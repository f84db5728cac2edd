-- The call checkpoint of a manager on its store: the state is written anew as one base, and the
-- manager stays as it is.
use Rattle.std.specs.Prelude.{◌≡◌, ◌⊎◌, Err, None, Result, true, ℕ}
use Rattle.mqb_outside.specs.Disk.{AtMost, IsSettled, LeavesOnly, View}
use Rattle.mqb_outside.specs.Images.{Each}
use Rattle.mqb_journal.specs.States.{checkpointed, is_too_far}
use Rattle.mqb_journal.specs.declared.faults.CheckpointFault.{CheckpointFault}
use Rattle.mqb_journal.specs.declared.faults.CheckpointFault.TheVariants as fault
use Rattle.mqb_model.specs.managers.Outcomes.{Outcome, failed_under}
use Rattle.mqb_model.specs.records.Reading.{record_of}
use Rattle.mqb_outside.specs.Faults.{Rose}
use Rattle.mqb_store.specs.mqb_store_laws.Checkpoints.{checkpoint}
use Rattle.mqb_store.specs.mqb_store_laws.Images.{Opens}
use Rattle.mqb_manager.specs.Calls.{Succeeds}
use Rattle.mqb_manager.specs.States.{IsOnDisk, IsSame, IsUp, ManagerState, manager_of}

-- that of a manager on its store
abbrev pub checkpoint_of : ManagerState → Outcome (Result (Unit {0}) CheckpointFault)
checkpoint_of m = checkpoint (manager_of m) (is_too_far m.store.journal)

-- Its disk failed: the manager is down with no record in doubt.
pub record FailsWithout (m n : ManagerState) : Type 0 where
  pub touches : (checkpoint_of m).touches ≡ true
  pub manager : manager_of n ≡ failed_under (manager_of m) None
  pub lines : n.store.lines ≡ m.store.lines
  pub count : n.store.journal.count ≡ m.store.journal.count
  pub guid : n.store.journal.guid ≡ m.store.journal.guid

-- It ends as its definition does, or it wants memory and leaves everything, or its disk fails.
abbrev pub EndsCheckpoint : ManagerState → ManagerState → Result (Unit {0}) CheckpointFault → Type 0
EndsCheckpoint m n r = ((r ≡ (checkpoint_of m).answer) × Succeeds m n (checkpoint_of m))
    ⊎ ((r ≡ Err fault.Memory) × IsSame m n)
    ⊎ ((r ≡ Err fault.DiskFault) × FailsWithout m n)

-- A checkpoint, from before it to behind it. A crash at any moment of it, and behind it however it
-- ends, leaves the state from before it, which is the state after it.
pub record IsCheckpoint (d e : View) (m n : ManagerState)
    (r : Result (Unit {0}) CheckpointFault) : Type 0 where
  pub ends : EndsCheckpoint m n r
  pub on : IsOnDisk d m → IsUp n → IsOnDisk e n
  pub settled : IsOnDisk d m → IsSettled d → IsUp n → IsSettled e
  pub moments : IsOnDisk d m → IsSettled d
      → LeavesOnly d e (Opens m.store.journal m.store.state None)
  pub doubt : IsOnDisk d m → IsSettled d → (IsUp n → ⊥)
      → Each e.leaves (Opens n.store.journal n.store.state (record_of n.store.entry))
  pub most : AtMost 7 d.calls e.calls
  pub rose : r ≡ Err fault.DiskFault → Rose d.faults e.faults
  pub stayed : (r ≡ Err fault.DiskFault → ⊥) → e.faults ≡ d.faults
  pub switch : e.switch ≡ d.switch

-- The store goes on behind a base that was written, and all its records are in that.
abbrev pub IsRewritten : ManagerState → ManagerState → Type 0
IsRewritten m n = (size : ℕ) × (n.store.journal ≡ checkpointed m.store.journal size)
