-- What became of a request of a manager with its disk, and of a checkpoint.
use Rattle.std.specs.Prelude.{[], ◌≡◌, Bool, Err, None, Ok, Result, Some, false, if◌then◌else◌}
use Rattle.mqb_journal.specs.declared.faults.CheckpointFault.{CheckpointFault}
use Rattle.mqb_journal.specs.declared.faults.CheckpointFault.TheVariants as fault
use Rattle.mqb_outside.specs.Disk.{View}
use Rattle.mqb_model.specs.calls.Call.{Answer}
use Rattle.mqb_model.specs.managers.Outcomes.{Outcome, lines_after}
use Rattle.mqb_moves.specs.mqb_network.Choices as network
use Rattle.mqb_replies.specs.Replies.{checkpoint_reply}
use Rattle.mqb_replies.specs.Requests.{reply_of}
use Rattle.mqb_moves.specs.Moves.{IsMove, IsRewriting, rewriting}
use Rattle.mqb_moves.specs.Seats.{SeatState, seated}
use Rattle.mqb_seats.specs.declared.called.Called.{Called}
use Rattle.mqb_seats.specs.declared.called.Called.TheVariants.{Broke, Told}
use Rattle.mqb_seats.specs.declared.called.Failure.{Failure}
use Rattle.mqb_seats.specs.declared.called.Failure.TheVariants.{Failed, Stopped}

-- how a disk failed, as a network tells it
abbrev pub failure_of : Failure → network.Failure
failure_of Stopped = network.Stopped
failure_of Failed = network.Failed

-- it stopped, where it says so
abbrev pub how_by : Bool → Failure
how_by stopped = if stopped then Stopped else Failed

-- A request went well and is told so, with the lines of its record; or the disk failed in it.
abbrev pub IsCalled : View → View → Bool → SeatState → SeatState → Outcome Answer → Called → Type 0
IsCalled d e stopped s t o (Told reply recorded) = IsMove d e s t o None
    × (reply_of o.answer (lines_after (seated s) o) ≡ Ok reply)
    × ((if recorded then t.manager.store.lines else []) ≡ lines_after (seated s) o)
IsCalled d e stopped s t o (Broke how) =
    IsMove d e s t o (Some (failure_of how)) × (how ≡ how_by stopped)

-- A checkpoint went well or was refused, and is told so; or the disk failed in
-- it. It has no record.
abbrev pub IsRewritten : View → View → Bool → SeatState → SeatState → Called → Type 0
IsRewritten d e stopped s t (Told reply recorded) = IsRewriting d e s t None
    × (checkpoint_reply (rewriting s).answer ≡ Ok reply) × (recorded ≡ false)
IsRewritten d e stopped s t (Broke how) =
    IsRewriting d e s t (Some (failure_of how)) × (how ≡ how_by stopped)

-- what a manager answers to a checkpoint, told so
abbrev pub TellsRewritten : Bool → Result (Unit {0}) CheckpointFault → Called → Type 0
TellsRewritten stopped r (Told reply recorded) =
    (checkpoint_reply r ≡ Ok reply) × (recorded ≡ false)
TellsRewritten stopped r (Broke how) = (r ≡ Err fault.DiskFault) × (how ≡ how_by stopped)
