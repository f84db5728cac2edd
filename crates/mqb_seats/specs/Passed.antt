-- What became of a packet that a manager was given, and of packets that it gave out.
use Rattle.std.specs.Prelude.{[], ◌≡◌, ◌⊎◌, Bool, Err, Ok, None, Result, Some, if◌then◌else◌}
use Rattle.mqb_base.specs.declared.heard.Heard.{Heard as HeardSo}
use Rattle.mqb_outside.specs.Disk.{View}
use Rattle.mqb_model.specs.calls.hear.Session.{HeardOutcome}
use Rattle.mqb_model.specs.declared.faults.HearFault.{HearFault}
use Rattle.mqb_model.specs.declared.faults.HearFault.TheVariants as fault
use Rattle.mqb_model.specs.managers.Outcomes.{lines_after}
use Rattle.mqb_moves.specs.Moves.{IsMove}
use Rattle.mqb_moves.specs.Seats.{SeatState, seated}
use Rattle.mqb_seats.specs.Called.{failure_of, how_by}
use Rattle.mqb_seats.specs.declared.packets.Passed.{Passed}
use Rattle.mqb_seats.specs.declared.packets.Passed.TheVariants.{Broke, Gone, Heard}

-- A packet was heard as this, with the lines of its record; or the manager hears
-- nothing; or the disk failed.
abbrev pub IsHeard : View → View → Bool → SeatState → SeatState → HeardOutcome → Passed → Type 0
IsHeard d e stopped s t o (Heard heard recorded) = IsMove d e s t o None × (o.answer ≡ Ok heard)
    × ((if recorded then t.manager.store.lines else []) ≡ lines_after (seated s) o)
IsHeard d e stopped s t o Gone = IsMove d e s t o None × ((why : HearFault) × (o.answer ≡ Err why))
IsHeard d e stopped s t o (Broke how) =
    IsMove d e s t o (Some (failure_of how)) × (how ≡ how_by stopped)

-- what a manager answers to a packet, told so
abbrev pub TellsHeard : Bool → Result HeardSo HearFault → Bool → Passed → Type 0
TellsHeard stopped r recorded (Heard heard told) = (r ≡ Ok heard) × (told ≡ recorded)
TellsHeard stopped r recorded Gone = (r ≡ Err fault.Down) ⊎ (r ≡ Err fault.NotLinked)
TellsHeard stopped r recorded (Broke how) = (r ≡ Err fault.DiskFault) × (how ≡ how_by stopped)
