-- Calls of a manager with its disk, as moves of its network.
use Rattle.std.specs.Option.{option_map_or}
use Rattle.std.specs.Prelude.{◌+◌, ◌≡◌, IsSome, MatchOption, None, Option, Result, Some, true, ℕ}
use Rattle.mqb_journal.specs.declared.faults.CheckpointFault.{CheckpointFault}
use Rattle.mqb_outside.specs.Disk.{View}
use Rattle.mqb_model.specs.managers.Manager.{Manager}
use Rattle.mqb_model.specs.managers.Outcomes.{Outcome, failed, succeeded}
use Rattle.mqb_network.specs.mqb_store_laws.Checkpoints.{checkpoint}
use Rattle.mqb_network.specs.Choices.{Choice, Failure, Fails, Well}
use Rattle.mqb_outside.specs.Faults.{Rose}
use Rattle.mqb_moves.specs.Seats.{IsHeldOn, SeatState, is_far_on, records_of, seated}

-- the choice that a call shows
abbrev pub choice_of : Option Failure → Choice
choice_of None = Well
choice_of (Some how) = Fails 0 how

-- the manager after a call that went well, or in which the disk failed
abbrev pub after_call : {A : Type 0} → Option Failure → Manager → Outcome A → Manager
after_call None m o = succeeded m o
after_call (Some how) m o = failed m o

-- how many records it adds
abbrev pub added_by : {A : Type 0} → Option Failure → Outcome A → ℕ
added_by None o = option_map_or (λ _. 1) o.entry 0
added_by (Some how) o = 0

-- A call of the manager that is held, whose disk failed in it or not. It fails
-- only where this holds.
pub record IsMoveWhere {A : Type 0} (Reason : Type 0) (d e : View) (s t : SeatState) (o : Outcome A)
    (failure : Option Failure) : Type 0 where
  pub manager : seated t ≡ after_call failure (seated s) o
  pub counted : records_of t ≡ records_of s + added_by failure o
  pub fails_where : IsSome failure → Reason
  pub held : IsHeldOn d s → IsHeldOn e t
  pub faults : MatchOption failure (e.faults ≡ d.faults) (λ how. Rose d.faults e.faults)
  pub switch : e.switch ≡ d.switch

-- It fails only under a record, as each call but a checkpoint does.
abbrev pub IsMove : {A : Type 0} → View → View → SeatState → SeatState → Outcome A → Option Failure
    → Type 0
IsMove d e s t o failure = IsMoveWhere (IsSome o.entry) d e s t o failure

-- what a checkpoint of the manager that is held comes to
abbrev pub rewriting : SeatState → Outcome (Result (Unit {0}) CheckpointFault)
rewriting s = checkpoint (seated s) (is_far_on s)

-- It writes no record, and fails only where it calls the disk.
abbrev pub IsRewriting : View → View → SeatState → SeatState → Option Failure → Type 0
IsRewriting d e s t failure =
    IsMoveWhere ((rewriting s).touches ≡ true) d e s t (rewriting s) failure
