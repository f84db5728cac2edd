-- How a network changes: each event is composed of these.
use Rattle.std.specs.Option.{option_map_or}
use Rattle.std.specs.Prelude.{[], ◌++◌, ◌+◌, ◌==◌, ◌∷◌, Bool, List, false, filter, if◌then◌else◌}
use Rattle.std.specs.Prelude.{not, replicate, true, ℕ}
use Rattle.mqb_base.specs.declared.ledger.Line.{Line}
use Rattle.mqb_model.specs.Lists.{with_changed}
use Rattle.mqb_model.specs.calls.Link.{unlink}
use Rattle.mqb_model.specs.managers.Manager.{Manager, is_down}
use Rattle.mqb_model.specs.managers.Outcomes.{Outcome, failed, lines_after, succeeded}
use Rattle.mqb_model.specs.managers.Restarts.{lines_in_doubt, restarted, unread}
use Rattle.mqb_queue.specs.Places.{with_numbered}
use Rattle.mqb_network.specs.Network.{Connection, Network, Note, connection_of, manager_at}
use Rattle.mqb_network.specs.Network.{other_end, with_manager}

-- lines join the ledger
abbrev pub with_lines : List Line → Network → Network
with_lines lines n = record n { ledger = n.ledger ++ lines }

-- Connections.

-- the next connection, between two managers
abbrev pub connection_to : Network → ℕ → ℕ → Connection
connection_to n a b = record { number = n.connected + 1; first = a; second = b }

-- a connection begins between two managers that are linked
abbrev pub begun : ℕ → ℕ → Network → Network
begun a b n = record n {
  connections = n.connections ++ connection_to n a b ∷ [];
  connected = n.connected + 1;
}

-- a manager that is up forgets whatever belonged to its connection
abbrev pub parted : Manager → Manager
parted m = if is_down m then m else succeeded m (unlink m)

-- a connection ends on both sides
abbrev pub ended_by : Network → Connection → Network
ended_by n c = record n {
  managers = with_changed parted (with_changed parted n.managers c.first) c.second;
  connections = filter (λ d. not (d.number == c.number)) n.connections;
}

-- that of a manager does, where it has one
abbrev pub ended : ℕ → Network → Network
ended i n = option_map_or (ended_by n) (connection_of n i) n

-- Calls.

-- a manager's call goes well: the lines of its record join the ledger
abbrev pub succeeded_at : {A : Type 0} → ℕ → Outcome A → Network → Network
succeeded_at i outcome n = with_lines (lines_after (manager_at n i) outcome)
    (with_manager n i (succeeded (manager_at n i) outcome))

-- the disk fails in it: the manager is down, and its connection ends
abbrev pub failed_at : {A : Type 0} → ℕ → Outcome A → Network → Network
failed_at i outcome n = ended i (with_manager n i (failed (manager_at n i) outcome))

-- a manager is started again over its store, which has the record in doubt or not
abbrev pub restarted_at : ℕ → (kept : Bool) → Network → Network
restarted_at i kept n = with_manager n i (restarted (manager_at n i) kept)

-- the lines of a record that is found kept join the ledger
abbrev pub found_at : ℕ → Network → Network
found_at i n = with_lines (lines_in_doubt (manager_at n i)) (restarted_at i true n)

-- its disk fails when it is to be started
abbrev pub unread_at : ℕ → Network → Network
unread_at i n = with_manager n i (unread (manager_at n i))

-- Packets.

-- a packet of a manager in its connection, at a moment
abbrev pub note_by : ℕ → ℕ → Connection → Note
note_by i now c = record {
  sender = i;
  receiver = other_end i c;
  connection = c.number;
  moment = now;
  dropped = false;
}

-- so many packets of a manager are sent
abbrev pub noted : ℕ → ℕ → ℕ → Network → Network
noted i now count n =
    option_map_or (λ c. record n { notes = n.notes ++ replicate count (note_by i now c) })
    (connection_of n i) n

-- a packet goes nowhere any more
abbrev pub as_dropped : Note → Note
as_dropped note = record note { dropped = true }

-- that of a number does not
abbrev pub dropped : ℕ → Network → Network
dropped k n = record n { notes = with_numbered n.notes k as_dropped }
