-- How a call of a manager ends, and what it leaves on the disk.
use Rattle.std.specs.Option.{option_map_or}
use Rattle.std.specs.Prelude.{◌+◌, ◌≡◌, ◌⊎◌, Err, IfSome, IsSome, None, OnErr, OnOk, Option, Result}
use Rattle.std.specs.Prelude.{false, true}
use Rattle.mqb_outside.specs.Disk.{Counted, IsSettled, LeavesOnly, View}
use Rattle.mqb_outside.specs.Images.{Each}
use Rattle.mqb_model.specs.managers.Manager.{is_down}
use Rattle.mqb_model.specs.managers.Outcomes.{Outcome, failed, succeeded}
use Rattle.mqb_model.specs.records.Applying.{lines_of}
use Rattle.mqb_model.specs.records.Reading.{record_of}
use Rattle.mqb_outside.specs.Faults.{Rose}
use Rattle.mqb_store.specs.mqb_store_laws.Images.{Opens}
use Rattle.mqb_store.specs.mqb_store_laws.Writing.{WritesOne}
use Rattle.mqb_manager.specs.States.{IsOnDisk, IsSame, IsUp, ManagerState, manager_of}

-- It went as the definition says. The lines are those of the last record.
pub record Succeeds {A : Type 0} (m n : ManagerState) (o : Outcome A) : Type 0 where
  pub manager : manager_of n ≡ succeeded (manager_of m) o
  pub lines : n.store.lines ≡ option_map_or (lines_of m.store.state) o.entry m.store.lines
  pub count : n.store.journal.count ≡ m.store.journal.count + option_map_or (λ _. 1) o.entry 0
  pub guid : n.store.journal.guid ≡ m.store.journal.guid

-- Its disk failed under the record of the definition.
pub record FailsUnder {A : Type 0} (m n : ManagerState) (o : Outcome A) : Type 0 where
  pub entry : IsSome o.entry
  pub manager : manager_of n ≡ failed (manager_of m) o
  pub lines : n.store.lines ≡ m.store.lines
  pub count : n.store.journal.count ≡ m.store.journal.count
  pub guid : n.store.journal.guid ≡ m.store.journal.guid

-- A call ends in one of three ways: it answers as its definition does, it wants memory and leaves
-- everything, or its disk fails.
abbrev pub Ends : {V E : Type 0} → (memory broken : E) → ManagerState → ManagerState
    → Outcome (Result V E) → Result V E → Type 0
Ends memory broken m n o r = ((r ≡ o.answer) × Succeeds m n o) ⊎ ((r ≡ Err memory) × IsSame m n)
    ⊎ ((r ≡ Err broken) × FailsUnder m n o)

-- A call with a disk, from before it to behind it. `memory` and `broken` are the faults by which it
-- says that memory ran out and that the disk failed.
pub record IsCall {V E : Type 0} (memory broken : E) (d e : View) (m n : ManagerState)
    (o : Outcome (Result V E)) (r : Result V E) : Type 0 where
  pub ends : Ends memory broken m n o r
  -- the disk stands for the records of the manager, while that is up
  pub on : IsOnDisk d m → IsUp n → IsOnDisk e n
  pub settled : IsOnDisk d m → IsSettled d → IsUp n → IsSettled e
  -- it writes the entry that the store spelled last, which is its record, or nothing
  pub wrote : WritesOne d e m.store.journal n.store.journal n.store.entry o.entry
  -- a crash at any moment of the call leaves the state from before it, or the one
  -- that its record leaves
  pub moments : IsOnDisk d m → IsSettled d
      → LeavesOnly d e (Opens m.store.journal m.store.state o.entry)
  -- and so does one behind a call that failed, by what the manager has in doubt
  pub doubt : IsOnDisk d m → IsSettled d → (IsUp n → ⊥)
      → Each e.leaves (Opens n.store.journal n.store.state (record_of n.store.entry))
  pub rose : r ≡ Err broken → Rose d.faults e.faults
  pub stayed : (r ≡ Err broken → ⊥) → e.faults ≡ d.faults
  pub switch : e.switch ≡ d.switch

-- What is said beside this.

-- A manager that is down says so, and stays as it is.
abbrev pub SaysDown : {V E : Type 0} → E → ManagerState → ManagerState → Result V E → Type 0
SaysDown down m n r = is_down (manager_of m) ≡ true → (r ≡ Err down) × (n ≡ m)

-- One that is up and not linked says that, and stays as it is.
abbrev pub SaysUnlinked : {V E : Type 0} → E → ManagerState → ManagerState → Result V E → Type 0
SaysUnlinked unlinked m n r =
    is_down (manager_of m) ≡ false → m.session ≡ None → (r ≡ Err unlinked) × (n ≡ m)

-- What refuses a call comes before want of memory.
abbrev pub RefusesFirst : {V E : Type 0} → Outcome (Result V E) → Result V E → Type 0
RefusesFirst o r = OnErr o.answer (r ≡ o.answer)

-- A record is four calls of the disk.
abbrev pub CallsForRecord : {R V E : Type 0} → View → View → Option R → Result V E → Type 0
CallsForRecord d e written r = OnOk r (IfSome written (λ _. Counted 4 d.calls e.calls))
