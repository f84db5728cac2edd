-- A manager with its disk in a network: what is held of it, and what the disk has.
use Rattle.std.specs.Prelude.{◌≡◌, Bool, false, if◌then◌else◌, length, true, ℕ}
use Rattle.mqb_outside.specs.Disk.{IsSettled, View}
use Rattle.mqb_outside.specs.Images.{Each}
use Rattle.mqb_journal.specs.States.{is_too_far}
use Rattle.mqb_manager.specs.States.{IsOnDisk, ManagerState, manager_of}
use Rattle.mqb_model.specs.managers.Manager.{Manager, doubt_of, is_down}
use Rattle.mqb_model.specs.managers.Restarts.{unread}
use Rattle.mqb_network.specs.mqb_store_laws.Images.{Opens}

-- the manager that was started last, and whether a start of it failed since
pub record SeatState : Type 0 where
  pub manager : ManagerState
  pub unread : Bool

-- how many records its store has had since it was formatted, the one in doubt left out
abbrev pub records_of : SeatState → ℕ
records_of s = s.manager.store.journal.count

-- its store is too far on for another base
abbrev pub is_far_on : SeatState → Bool
is_far_on s = is_too_far s.manager.store.journal

-- The manager of the network. One that could not be started is down, with the doubt that there was.
abbrev pub seated : SeatState → Manager
seated s = if s.unread then unread (manager_of s.manager) else manager_of s.manager

-- The disk of a manager that is up stands for its records and is settled. An image of the disk of
-- one that is down opens to the state that it had, or to the one that the record in doubt leaves.
pub record IsHeldOn (d : View) (s : SeatState) : Type 0 where
  pub whole : length s.manager.store.journal.guid.0 ≡ 16
  pub on : is_down (seated s) ≡ false → IsOnDisk d s.manager
  pub settled : is_down (seated s) ≡ false → IsSettled d
  pub opens : is_down (seated s) ≡ true → Each d.leaves
      (Opens s.manager.store.journal s.manager.store.state (doubt_of (seated s).condition))
