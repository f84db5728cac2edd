-- Runs: events, each with what was chosen in it.
use Rattle.std.specs.Prelude.{[], ◌++◌, ◌∷◌, Bool, IsTrue, List, None, Option, false, fold, is_some}
use Rattle.std.specs.Prelude.{length, nat_lt, not, true, ℕ}
use Rattle.mqb_base.specs.declared.ids.Identity.{Identity}
use Rattle.mqb_model.specs.managers.Manager.{doubt_of, is_down}
use Rattle.mqb_packet.specs.declared.packet.Packet.{Packet}
use Rattle.mqb_queue.specs.Places.{numbered}
use Rattle.mqb_network.specs.Answers.{Answer}
use Rattle.mqb_network.specs.Checkpointing.{may_checkpoint}
use Rattle.mqb_network.specs.Choices.{Choice, Fails, Kept, Lost, Unread, Well}
use Rattle.mqb_network.specs.Courses.{Course, course_from}
use Rattle.mqb_network.specs.Events.{Checkpoint, Deliver, Event, Restart}
use Rattle.mqb_network.specs.Network.{Network, manager_at, start}
use Rattle.mqb_network.specs.Replies.{Reply}
use Rattle.mqb_network.specs.Step.{step}

-- an event, and what was chosen
pub record Move : Type 0 where
  pub event : Event
  pub choice : Choice

-- what the packet that an event delivers says
abbrev pub packet_of : List Packet → Event → Option Packet
packet_of sent (Deliver k now) = numbered sent k
packet_of sent _ = None

-- what is answered to a move
abbrev pub answer : Course → Move → Answer
answer c m = step c.network (packet_of c.sent m.event) m.event m.choice

-- what was sent and written joins what was before
abbrev pub joined : Course → Course → Course
joined before c = record {
  network = c.network;
  sent = before.sent ++ c.sent;
  written = before.written ++ c.written;
}

-- a course goes on by a move
abbrev pub moved_on : Course → Move → Course
moved_on c m = joined c (answer c m).after

-- What may be chosen: a disk fails only where a call touches it, a record is kept only where one is
-- in doubt, and a store is too far on only behind many records.

-- what may be chosen when a manager is started again
abbrev pub may_restart : Network → ℕ → Choice → Bool
may_restart n i Well = not (is_down (manager_at n i))
may_restart n i Kept = is_some (doubt_of (manager_at n i).condition)
may_restart n i Lost = is_down (manager_at n i)
may_restart n i Unread = true
may_restart n i _ = false

-- how many records an event writes where no disk fails
abbrev pub records_in : Course → Event → ℕ
records_in c e = length (answer c (record { event = e; choice = Well })).after.written

-- what may be chosen in an event that writes so many
abbrev pub may_fail : ℕ → Choice → Bool
may_fail records Well = true
may_fail records (Fails before how) = nat_lt before records
may_fail records _ = false

-- what may be chosen in an event
abbrev pub may : Course → Event → Choice → Bool
may c (Restart i) choice = may_restart c.network i choice
may c (Checkpoint i) choice = may_checkpoint c i choice
may c e choice = may_fail (records_in c e) choice

-- each move is one that may be chosen behind those before it
abbrev pub IsRunFrom : Course → List Move → Type 0
IsRunFrom c [] = Unit {0}
IsRunFrom c (m ∷ ms) = IsTrue (may c m.event m.choice) × IsRunFrom (moved_on c m) ms

-- the course behind moves
abbrev pub course_after : Course → List Move → Course
course_after c ms = fold moved_on c ms

-- their replies
abbrev pub replies_from : Course → List Move → List Reply
replies_from c [] = []
replies_from c (m ∷ ms) = (answer c m).reply ∷ replies_from (moved_on c m) ms

-- Runs of managers that begin with nothing.

-- the course that begins
abbrev pub beginning : List Identity → Course
beginning known = course_from (start known)

-- a run
abbrev pub IsRun : List Identity → List Move → Type 0
IsRun known ms = IsRunFrom (beginning known) ms

-- the network after it, all packets that were ever sent, and all records that were ever written
abbrev pub after_run : List Identity → List Move → Course
after_run known ms = course_after (beginning known) ms
