-- A network in its course: what it is now, and what the packets said and which records were written
-- since the course began.
use Rattle.std.specs.Prelude.{[], ◌++◌, ◌∷◌, List, None, Option, Some, length, ℕ}
use Rattle.mqb_model.specs.managers.Manager.{Manager, doubt_of}
use Rattle.mqb_model.specs.managers.Outcomes.{Outcome}
use Rattle.mqb_model.specs.records.Record.{Record}
use Rattle.mqb_model.specs.state.State.{State}
use Rattle.mqb_packet.specs.declared.packet.Packet.{Packet}
use Rattle.mqb_network.specs.Changes.{failed_at, found_at, noted, succeeded_at}
use Rattle.mqb_network.specs.Choices.{Choice, Failure, failure_in}
use Rattle.mqb_network.specs.Network.{Network, manager_at}

-- a record that was written, or found kept: whose, and the state that it met
pub record Written : Type 0 where
  pub by : ℕ
  pub before : State
  pub entry : Record

-- the network, the packets that were sent, and the records that were written
pub record Course : Type 0 where
  pub network : Network
  pub sent : List Packet
  pub written : List Written

-- nothing was sent and written yet
abbrev pub course_from : Network → Course
course_from n = record { network = n; sent = []; written = [] }

-- the network alone changes
abbrev pub moved : (Network → Network) → Course → Course
moved change c = record c { network = change c.network }

-- the record of a manager, where there is one
abbrev pub written_by : ℕ → Manager → Option Record → List Written
written_by i m None = []
written_by i m (Some r) = record { by = i; before = m.state; entry = r } ∷ []

-- the network changes by it
abbrev pub with_written : ℕ → Option Record → (Network → Network) → Course → Course
with_written i r change c = record c {
  network = change c.network;
  written = c.written ++ written_by i (manager_at c.network i) r;
}

-- a call goes well, or the disk fails in it
abbrev pub called_unless : {A : Type 0} → ℕ → Outcome A → Option Failure → Course → Course
called_unless i outcome None c = with_written i outcome.entry (succeeded_at i outcome) c
called_unless i outcome (Some how) c = moved (failed_at i outcome) c

-- a manager makes a call
abbrev pub called : {A : Type 0} → ℕ → Outcome A → Choice → Course → Course
called i outcome choice c = called_unless i outcome (failure_in choice outcome) c

-- packets of a manager are sent
abbrev pub posted : ℕ → ℕ → List Packet → Course → Course
posted i now packets c =
    record c { network = noted i now (length packets) c.network; sent = c.sent ++ packets }

-- a manager that was down is started over a store that has the record in doubt
abbrev pub found_kept : ℕ → Course → Course
found_kept i c = with_written i (doubt_of (manager_at c.network i).condition) (found_at i) c
