-- What it is to the network that packets are delivered in turn.
use Rattle.std.specs.List.{enumerate_from}
use Rattle.std.specs.Prelude.{[], ◌++◌, ◌+◌, ◌<◌, ◌≡◌, IsSome, List, None, Option, Some, drop, fold}
use Rattle.std.specs.Prelude.{length, map, take, ℕ}
use Rattle.mqb_network.specs.Choices.{Choice, Failure, Fails, Well}
use Rattle.mqb_network.specs.Courses.{Course, Written}
use Rattle.mqb_network.specs.Network.{Network}
use Rattle.mqb_network.specs.Replies as network
use Rattle.mqb_network.specs.Sending.{Passing, passed_on}
use Rattle.mqb_packet.specs.declared.packet.Packet.{Packet}
use Rattle.mqb_transcript.specs.declared.arrivals.Arrival.{Arrival}
use Rattle.mqb_turns.specs.Counts.{CountsGo}
use Rattle.mqb_turns.specs.Passes.{course_in}
use Rattle.mqb_turns.specs.Replies.{arrival_of}

-- so many packets behind those before, of all that were ever sent, with their numbers
abbrev pub sent_behind : List Packet → (before count : ℕ) → List (ℕ × Packet)
sent_behind packets before count = enumerate_from (before + 1) (take count (drop before packets))

-- a choice by which the disks work in so many calls more
abbrev pub later : ℕ → Choice → Choice
later t (Fails b how) = Fails (t + b) how
later t choice = choice

-- a choice of how disks fail in calls
abbrev pub IsFailing : Choice → Type 0
IsFailing Well = Unit {0}
IsFailing (Fails b how) = Unit {0}
IsFailing _ = ⊥

-- the packets are delivered from a course on
abbrev pub flowing : Course → ℕ → List (ℕ × Packet) → Choice → Passing
flowing c now given choice =
    fold (passed_on now) (record { arrivals = []; after = c; left = choice }) given

-- Whichever choice is left, one that is later by the records that were written leads here; or a
-- disk failed behind so many records, and none is written since.
abbrev pub LeadsTo : Course → ℕ → List (ℕ × Packet) → ℕ → (List network.Arrival) → Course
    → Option Failure → Type 0
LeadsTo c now given t passed after None = (l : Choice) → IsFailing l
    → flowing c now given (later t l) ≡ record { arrivals = passed; after = after; left = l }
LeadsTo c now given t passed after (Some how) = (flowing c now given (Fails t how)
    ≡ record { arrivals = passed; after = after; left = Fails 0 how })
    × (length c.written + t < length (flowing c now given Well).after.written)

-- Packets were delivered.
pub record Flown (counts counts_now : ℕ → ℕ) (c : Course) (now : ℕ) (given : List (ℕ × Packet))
    (arrivals : List Arrival) (n_now : Network) : Type 0 where
  pub passed : List network.Arrival
  pub failure : Option Failure
  pub written : List Written
  pub records : ℕ
  pub told : map arrival_of passed ≡ arrivals
  pub leads :
      LeadsTo c now given records passed (course_in n_now c.sent (c.written ++ written)) failure
  pub count : failure ≡ None → length written ≡ records
  pub counted : CountsGo counts counts_now written
  pub notes : n_now.notes ≡ c.network.notes
  pub cut : IsSome failure → n_now.connections ≡ []
