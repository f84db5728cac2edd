-- What is seen of a manager, and the manager of the definitions that it is.
use Rattle.std.specs.Prelude.{◌≡◌, Bool, List, Option, cond, ℕ}
use Rattle.mqb_outside.specs.Disk.{View}
use Rattle.mqb_model.specs.managers.Manager.{Condition, Down, Manager, Up}
use Rattle.mqb_model.specs.records.Reading.{record_of}
use Rattle.mqb_session.specs.State as one_end
use Rattle.mqb_store.specs.States as stores
use Rattle.mqb_store.specs.States.{IsSameStore, IsStoredOn, StoreState}

-- its store; and what it knows of a connection alone: its end of the session, for each outgoing row
-- the number that was sent last in it, and for each incoming row whether an acknowledgement is owed
pub record ManagerState : Type 0 where
  pub store : StoreState
  pub session : Option one_end.State
  pub cursors : List ℕ
  pub owes : List Bool

-- up, or down with what its store could not write
abbrev pub condition_of : StoreState → Condition
condition_of w = cond w.journal.down (Down (record_of w.entry)) Up

-- the manager that it is
abbrev pub manager_of : ManagerState → Manager
manager_of m = record {
  state = m.store.state;
  rest = record { session = m.session; cursors = m.cursors; owes = m.owes };
  condition = condition_of m.store;
}

-- it was not refused a call of its disk since it was started
abbrev pub IsUp : ManagerState → Type 0
IsUp m = stores.IsUp m.store

-- a disk stands for its records, and they for what its store has of its state
abbrev pub IsOnDisk : View → ManagerState → Type 0
IsOnDisk d m = IsStoredOn d m.store

-- the same but for the entry that its store spelled last
pub record IsSame (m n : ManagerState) : Type 0 where
  pub manager : manager_of n ≡ manager_of m
  pub store : IsSameStore m.store n.store
