-- What a restart is to the network of a world, as the manager sees it that is started again.
use Rattle.std.specs.Prelude.{[], ◌+◌, ◌≡◌, Bool, IsTrue, List, Ok, false, if◌then◌else◌, true, ℕ}
use Rattle.mqb_base.specs.declared.ledger.Line.{Line}
use Rattle.mqb_outside.specs.Disk.{View}
use Rattle.mqb_seats.specs.Holding.{StaysStored}
use Rattle.mqb_seats.specs.Seats.{IsHeldOn, records_of}
use Rattle.mqb_network.specs.Choices.{Choice}
use Rattle.mqb_network.specs.Events.{Restart}
use Rattle.mqb_network.specs.Replies as network
use Rattle.mqb_network.specs.Runs.{may_restart}
use Rattle.mqb_outside.specs.Faults.{Rose}
use Rattle.mqb_script.specs.declared.managers.Which.{Which}
use Rattle.mqb_seats.specs.declared.restarting.Opened.{Opened}
use Rattle.mqb_seats.specs.declared.restarting.Opened.TheVariants.{Kept, Same, Unread}
use Rattle.mqb_traffic.specs.Networks.{index_of}
use Rattle.mqb_transcript.specs.declared.replies.Reply.{Reply}
use Rattle.mqb_transcript.specs.declared.replies.Reply.TheVariants as reply
use Rattle.mqb_turns.specs.Counts.{CountsGo, counts_at}
use Rattle.mqb_turns.specs.Replies.{told}
use Rattle.mqb_turns.specs.Turns.{answers_to}
use Rattle.mqb_turns.specs.Sides.{Side, network_at}

-- how it is told what was opened, with the lines of the last record
abbrev pub opened_reply : (was_down : Bool) → List Line → Opened → Reply
opened_reply was_down lines Same = if was_down then reply.OpenedLost else reply.Opened
opened_reply was_down lines Kept = reply.OpenedKept lines
opened_reply was_down lines Unread = reply.Failed

-- the record in doubt was kept
abbrev pub was_kept : Opened → Bool
was_kept Kept = true
was_kept Same = false
was_kept Unread = false

-- the disk failed where that is answered
abbrev pub FailsInStart : (before after : ℕ) → network.Reply → Type 0
FailsInStart before after (network.DiskFailed how) = Rose before after
FailsInStart before after _ = after ≡ before

-- A start is told by the records of its manager: one more where the record in doubt was kept, and
-- as many where it was lost, where there was none, or where the disk failed.
abbrev pub IsToldByRecords : Reply → (before after : ℕ) → Type 0
IsToldByRecords (reply.OpenedKept lines) before after = after ≡ before + 1
IsToldByRecords reply.OpenedLost before after = after ≡ before
IsToldByRecords reply.Opened before after = after ≡ before
IsToldByRecords reply.Failed before after = after ≡ before
IsToldByRecords _ before after = Unit {0}

-- A manager is started again: a choice that may be made comes to the reply and to the network,
-- and the disks are held.
pub record IsStarted (which : Which) (x y : Side) (d e : View) (given : Reply) : Type 0 where
  pub choice : Choice
  pub may : IsTrue (may_restart (network_at which x) (index_of which) choice)
  pub reply : told (answers_to which x (Restart (index_of which)) choice).reply ≡ Ok given
  pub network : (answers_to which x (Restart (index_of which)) choice).after.network
      ≡ network_at which y
  pub sent : (answers_to which x (Restart (index_of which)) choice).after.sent ≡ []
  pub counted : CountsGo (counts_at which x) (counts_at which y)
      (answers_to which x (Restart (index_of which)) choice).after.written
  pub held : IsHeldOn e y.own
  pub beside : StaysStored x.other y.other
  pub records : IsToldByRecords given (records_of x.own) (records_of y.own)
  pub faults :
      FailsInStart d.faults e.faults (answers_to which x (Restart (index_of which)) choice).reply
