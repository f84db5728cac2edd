-- A call with a disk is a move, and so is one that a manager which is down refuses.
use Rattle.std.specs.Prelude.{◌≡◌, None, Result, false}
use Rattle.mqb_outside.specs.Disk.{View}
use Rattle.mqb_model.specs.managers.Outcomes.{Outcome}
use Rattle.mqb_manager.specs.Calls.{Succeeds}
use Rattle.mqb_manager.specs.States.{ManagerState}
use Rattle.mqb_moves.specs.Moves.{IsMove}
use Rattle.mqb_moves.specs.Seats.{SeatState}

-- the seat of a manager that was started
abbrev pub seat_of : ManagerState → SeatState
seat_of m = record { manager = m; unread = false }

-- Calls.

-- what is known where a call went well
pub record Went {V E : Type 0} (d e : View) (m n : ManagerState) (o : Outcome (Result V E))
    (r : Result V E) : Type 0 where
  pub answer : r ≡ o.answer
  pub left : Succeeds m n o
  pub move : IsMove d e (seat_of m) (seat_of n) o None
