-- The primitive changes of a course. Each carries its choices, what it does is a function, and
-- whether it may happen is a test.
use Rattle.std.specs.Prelude.{[], ◌&&◌, ◌||◌, Bool, List, None, Option, Some, false, is_none}
use Rattle.std.specs.Prelude.{is_some, not, true, ℕ}
use Rattle.mqb_model.specs.managers.Manager.{Manager, doubt_of}
use Rattle.mqb_model.specs.managers.Outcomes.{Outcome}
use Rattle.mqb_network.specs.Changes.{dropped, ended, restarted_at, unread_at}
use Rattle.mqb_network.specs.Choices.{Failure}
use Rattle.mqb_network.specs.Connecting.{any_connected, any_down, both_linked}
use Rattle.mqb_network.specs.Courses.{Course, called_unless, found_kept, moved, posted}
use Rattle.mqb_network.specs.Network.{Note, is_connected, is_underway, manager_at}
use Rattle.mqb_packet.specs.declared.packet.Packet.{Packet}
use Rattle.mqb_queue.specs.Places.{numbered}
use Rattle.mqb_model.specs.calls.Call.{Answer, Call, Hear, Pump, outcome_of}

-- one change
pub data Change : Type 0 where
  -- a manager makes a call that has nothing to do with packets
  Calls : (manager : ℕ) → Call → Option Failure → Change
  -- a manager pumps, and its packets go
  Pumps : (manager now : ℕ) → Option Failure → Change
  -- the packet of a number is heard by its receiver
  Hears : (packet now : ℕ) → Option Failure → Change
  -- two managers are linked, and their connection begins
  Links : (initiator acceptor : ℕ) → (initiator_window acceptor_window : ℕ) → Change
  -- the connection of a manager ends, where it has one
  Ends : (manager : ℕ) → Change
  Drops : (packet : ℕ) → Change
  -- a manager is started over a store without the record in doubt, or with it, or its disk fails
  Restarts : (manager : ℕ) → Change
  Finds : (manager : ℕ) → Change
  Fails : (manager : ℕ) → Change

-- a manager makes this call
abbrev pub calling : ℕ → Call → Option Failure → Course → Course
calling i call failure c = called_unless i (outcome_of (manager_at c.network i) call) failure c

-- the packets that a call gives out, unless the disk fails
abbrev pub given_out : Outcome Answer → Option Failure → List Packet
given_out outcome None = outcome.packets
given_out outcome (Some how) = []

-- a manager pumps
abbrev pub pumping : ℕ → ℕ → Option Failure → Course → Course
pumping i now failure c =
    posted i now (given_out (outcome_of (manager_at c.network i) (Pump now)) failure)
    (calling i (Pump now) failure c)

-- a packet that has a note and says this is heard
abbrev pub hearing : Option Note → Option Packet → ℕ → Option Failure → Course → Course
hearing (Some note) (Some p) now failure c = calling note.receiver (Hear now p) failure c
hearing _ _ now failure c = c

-- what a change does
abbrev pub changed : Change → Course → Course
changed (Calls i call failure) c = calling i call failure c
changed (Pumps i now failure) c = pumping i now failure c
changed (Hears k now failure) c =
    hearing (numbered c.network.notes k) (numbered c.sent k) now failure c
changed (Links a b window_a window_b) c = moved (both_linked a b window_a window_b) c
changed (Ends i) c = moved (ended i) c
changed (Drops k) c = moved (dropped k) c
changed (Restarts i) c = moved (restarted_at i false) c
changed (Finds i) c = found_kept i c
changed (Fails i) c = moved (unread_at i) c

-- Which may happen.

-- a call has to do with packets
abbrev pub is_of_packets : Call → Bool
is_of_packets (Pump now) = true
is_of_packets (Hear now p) = true
is_of_packets _ = false

-- a disk fails only in a call that touches it
abbrev pub may_fail : Manager → Call → Option Failure → Bool
may_fail m call failure = is_none failure || (outcome_of m call).touches

-- a packet that has a note can still be heard
abbrev pub may_hear : Course → Option Note → Option Packet → ℕ → Option Failure → Bool
may_hear c (Some note) (Some p) now failure =
    is_underway c.network note && may_fail (manager_at c.network note.receiver) (Hear now p) failure
may_hear c _ _ now failure = false

-- A change may happen. Managers are linked only where both are up and neither has a connection, and
-- started only where they have none.
abbrev pub may_change : Course → Change → Bool
may_change c (Calls i call failure) =
    not (is_of_packets call) && may_fail (manager_at c.network i) call failure
may_change c (Pumps i now failure) = may_fail (manager_at c.network i) (Pump now) failure
may_change c (Hears k now failure) =
    may_hear c (numbered c.network.notes k) (numbered c.sent k) now failure
may_change c (Links a b window_a window_b) =
    not (any_down c.network a b) && not (any_connected c.network a b)
may_change c (Ends i) = true
may_change c (Drops k) = true
may_change c (Restarts i) = not (is_connected c.network i)
may_change c (Finds i) =
    not (is_connected c.network i) && is_some (doubt_of (manager_at c.network i).condition)
may_change c (Fails i) = not (is_connected c.network i)
