-- What an event is to the network of a world, as one manager sees it.
use Rattle.std.specs.Prelude.{[], ◌≡◌, Bool, IsTrue, None, Ok, length, ℕ}
use Rattle.mqb_outside.specs.Disk.{View}
use Rattle.mqb_seats.specs.Holding.{StaysStored}
use Rattle.mqb_seats.specs.Seats.{IsHeldOn}
use Rattle.mqb_network.specs.Answers.{Answer}
use Rattle.mqb_network.specs.Choices.{Choice, Well}
use Rattle.mqb_network.specs.Events.{Event}
use Rattle.mqb_network.specs.Replies as network
use Rattle.mqb_network.specs.Runs.{may_fail}
use Rattle.mqb_network.specs.Step.{step}
use Rattle.mqb_outside.specs.Faults.{Rose}
use Rattle.mqb_script.specs.declared.managers.Which.{Which}
use Rattle.mqb_seats.specs.Called.{failure_of, how_by}
use Rattle.mqb_transcript.specs.declared.replies.Reply.{Reply}
use Rattle.mqb_turns.specs.Counts.{CountsGo, counts_at}
use Rattle.mqb_turns.specs.Replies.{told}
use Rattle.mqb_turns.specs.Sides.{Side, network_at}

-- what is answered to an event of which no packet is asked, for each choice
abbrev pub answers_to : Which → Side → Event → Choice → Answer
answers_to which x e choice = step (network_at which x) None e choice

-- The disk failed in an event that is answered by a failure, and says whether it stopped.
abbrev pub FailsAsAnswered : Bool → (before after : ℕ) → network.Reply → Type 0
FailsAsAnswered stopped before after (network.DiskFailed how) =
    Rose before after × (how ≡ failure_of (how_by stopped))
FailsAsAnswered stopped before after _ = after ≡ before

-- An event of one manager, which calls its disk: a choice that is allowed comes to the reply and
-- to the network, no packet is sent, each store has had as many records more as were written,
-- and the disks are held.
pub record IsTurnWhere (allowed : Choice → Bool) (which : Which) (x y : Side) (d e : View)
    (stopped : Bool) (answers : Choice → Answer) (given : Reply) : Type 0 where
  pub choice : Choice
  pub may : IsTrue (allowed choice)
  pub reply : told (answers choice).reply ≡ Ok given
  pub network : (answers choice).after.network ≡ network_at which y
  pub sent : (answers choice).after.sent ≡ []
  pub counted : CountsGo (counts_at which x) (counts_at which y) (answers choice).after.written
  pub held : IsHeldOn d x.own → IsHeldOn e y.own
  pub beside : StaysStored x.other y.other
  pub faults : FailsAsAnswered stopped d.faults e.faults (answers choice).reply

-- its disk may fail under a record
abbrev pub IsTurn : Which → Side → Side → View → View → Bool → (Choice → Answer) → Reply → Type 0
IsTurn which x y d e stopped answers given =
    IsTurnWhere (may_fail (length (answers Well).after.written)) which x y d e stopped answers given

-- An event that calls no disk, and sends no packet.
pub record IsQuiet (which : Which) (x y : Side) (a : Answer) (given : Reply) : Type 0 where
  pub reply : told a.reply ≡ Ok given
  pub network : a.after.network ≡ network_at which y
  pub sent : a.after.sent ≡ []
  pub counted : CountsGo (counts_at which x) (counts_at which y) a.after.written
  pub own : StaysStored x.own y.own
  pub beside : StaysStored x.other y.other
