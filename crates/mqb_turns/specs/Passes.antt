-- What it is to the network that one packet is passed to its receiver.
use Rattle.std.specs.Prelude.{[], ◌++◌, ◌+◌, ◌≡◌, Bool, IsSome, true, false, List, MatchOption}
use Rattle.std.specs.Prelude.{None, Option, if◌then◌else◌, length, ℕ}
use Rattle.mqb_outside.specs.Disk.{View}
use Rattle.mqb_model.specs.calls.hear.Session.{HeardOutcome}
use Rattle.mqb_seats.specs.Holding.{StaysStored}
use Rattle.mqb_seats.specs.Seats.{IsHeldOn}
use Rattle.mqb_network.specs.Choices.{Choice, Failure, Well, choice_behind, failure_in}
use Rattle.mqb_network.specs.Courses.{Course, Written}
use Rattle.mqb_network.specs.Delivering.{passed}
use Rattle.mqb_network.specs.Network.{Network, Note}
use Rattle.mqb_network.specs.Replies.{Delivery, Unheard}
use Rattle.mqb_outside.specs.Faults.{Rose}
use Rattle.mqb_packet.specs.declared.packet.Packet.{Packet}
use Rattle.mqb_script.specs.declared.managers.Which.{Which}
use Rattle.mqb_seats.specs.Called.{failure_of, how_by}
use Rattle.mqb_transcript.specs.declared.arrivals.Outcome.{Outcome}
use Rattle.mqb_turns.specs.Counts.{CountsGo, counts_at}
use Rattle.mqb_turns.specs.Replies.{outcome_of}
use Rattle.mqb_turns.specs.Sides.{Side, network_at}

-- a course that stands at a network
abbrev pub course_in : Network → List Packet → List Written → Course
course_in n sent written = record { network = n; sent = sent; written = written }

-- how many records there are where a disk is called
abbrev pub touched : Bool → ℕ
touched touches = if touches then 1 else 0

-- A packet is passed: what becomes of it, and of the course and of the choices. `outcome` is what
-- its receiver makes of it, or one that calls no disk where it makes nothing of it; with a choice
-- by which the disk fails in it, or not, as it did, the packet comes to this.
pub record IsPassed (which : Which) (x y : Side) (d e : View) (stopped : Bool) (note : Note)
    (p : Packet) (now : ℕ) (given : Outcome) : Type 0 where
  pub delivery : Delivery
  pub failure : Option Failure
  pub outcome : HeardOutcome
  pub written : List Written
  pub told : outcome_of delivery ≡ given
  pub passes : (choice : Choice) → failure_in choice outcome ≡ failure
      → (sent : List Packet) (before : List Written)
      → passed note p now choice (course_in (network_at which x) sent before)
      ≡ record {
        delivery = delivery;
        after = course_in (network_at which y) sent (before ++ written);
        left = choice_behind choice outcome;
      }
  -- so many records are written where no disk fails
  pub would : (sent : List Packet) (before : List Written)
      → length (passed note p now Well (course_in (network_at which x) sent before)).after.written
      ≡ length before + touched outcome.touches
  pub touches : IsSome failure → outcome.touches ≡ true
  -- without a connection nothing is heard, and where the disk failed there is none behind it
  pub idle : (network_at which x).connections ≡ [] → (outcome.touches ≡ false) × (failure ≡ None)
  pub stays : (network_at which x).connections ≡ [] → network_at which x ≡ network_at which y
  pub cut : IsSome failure → (network_at which y).connections ≡ []
  pub counted : CountsGo (counts_at which x) (counts_at which y) written
  pub held : IsHeldOn d x.own → IsHeldOn e y.own
  pub beside : StaysStored x.other y.other
  pub faults : MatchOption failure (e.faults ≡ d.faults) (λ how. Rose d.faults e.faults
      × (how ≡ failure_of (how_by stopped)) × (delivery ≡ Unheard how))
