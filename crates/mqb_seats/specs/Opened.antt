-- What a restart of a manager with its disk comes to.
use Rattle.std.specs.Prelude.{◌+◌, ◌≡◌, Bool, IsSome, Some, false, if◌then◌else◌, true}
use Rattle.mqb_outside.specs.Disk.{View}
use Rattle.mqb_outside.specs.Images.{Each}
use Rattle.mqb_model.specs.managers.Manager.{doubt_of}
use Rattle.mqb_model.specs.managers.Restarts.{lines_in_doubt, restarted, unread}
use Rattle.mqb_outside.specs.Faults.{Rose}
use Rattle.mqb_moves.specs.Seats.{IsHeldOn, SeatState, seated}
use Rattle.mqb_seats.specs.declared.restarting.Opened.{Opened}
use Rattle.mqb_seats.specs.declared.restarting.Opened.TheVariants.{Kept, Same, Unread}

-- A disk is as its last restart left it: that is what a crash leaves, and so
-- nothing was written since.
abbrev pub IsAsLeft : View → Type 0
IsAsLeft d = Each d.leaves (λ c. d.switch.last_left ≡ Some c)

-- The manager was started over a store with the records that there were.
pub record OpenedSame (d e : View) (s t : SeatState) : Type 0 where
  pub manager : seated t ≡ restarted (seated s) false
  pub count : t.manager.store.journal.count ≡ s.manager.store.journal.count
  pub held : IsHeldOn e t
  pub faults : e.faults ≡ d.faults

-- It was started over one that has the record in doubt besides, whose lines are the last.
pub record OpenedKept (d e : View) (s t : SeatState) : Type 0 where
  pub doubt : IsSome (doubt_of (seated s).condition)
  pub manager : seated t ≡ restarted (seated s) true
  pub count : t.manager.store.journal.count ≡ s.manager.store.journal.count + 1
  pub lines : t.manager.store.lines ≡ lines_in_doubt (seated s)
  pub held : IsHeldOn e t
  pub faults : e.faults ≡ d.faults

-- Its disk failed, and it has the records that it had: what stands on the disk is these, or the
-- one in doubt besides.
pub record NotOpened (d e : View) (s t : SeatState) : Type 0 where
  pub manager : seated t ≡ unread (seated s)
  pub count : t.manager.store.journal.count ≡ s.manager.store.journal.count
  pub held : IsHeldOn e t
  pub faults : Rose d.faults e.faults

-- one of these
abbrev pub IsOpened : View → View → SeatState → SeatState → Opened → Type 0
IsOpened d e s t Same = OpenedSame d e s t
IsOpened d e s t Kept = OpenedKept d e s t
IsOpened d e s t Unread = NotOpened d e s t

-- whether the record in doubt was kept
abbrev pub opened_by : Bool → Opened
opened_by kept = if kept then Kept else Same
