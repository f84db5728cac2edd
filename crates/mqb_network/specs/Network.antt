-- Managers, the connections between them, what is noted of the packets that were ever
-- sent, and the ledger.
use Rattle.std.specs.List.{list_any}
use Rattle.std.specs.Prelude.{[], ◌&&◌, ◌==◌, ◌||◌, Bool, List, None, Option, filter, find, fold}
use Rattle.std.specs.Prelude.{if◌then◌else◌, map, not, slice_get, slice_set, unwrap_or, ℕ}
use Rattle.mqb_base.specs.Same.{same_guid}
use Rattle.mqb_base.specs.declared.ids.Identity.{Identity}
use Rattle.mqb_base.specs.declared.ledger.Line.{Line}
use Rattle.mqb_model.specs.managers.Manager.{Down, Manager, new_manager, unlinked}
use Rattle.mqb_model.specs.records.Applying.{apply}
use Rattle.mqb_model.specs.records.Record as entry
use Rattle.mqb_model.specs.state.State.{empty}
use Rattle.mqb_session.specs.State.{no_guid}

-- a connection that stands: its number, from 1, and its two ends
pub record Connection : Type 0 where
  pub number : ℕ
  pub first : ℕ
  pub second : ℕ

-- what is noted of a packet that was sent: by whom and to whom, in which connection, at which
-- moment, and whether it was dropped
pub record Note : Type 0 where
  pub sender : ℕ
  pub receiver : ℕ
  pub connection : ℕ
  pub moment : ℕ
  pub dropped : Bool

-- A network. Managers are told by their indexes, packets by their numbers, which are the places of
-- their notes, from 1.
pub record Network : Type 0 where
  pub managers : List Manager
  pub connections : List Connection
  -- how many connections ever began
  pub connected : ℕ
  pub notes : List Note
  pub ledger : List Line

-- The managers.

-- where there is no manager, it is as if one were down
abbrev pub nobody : Manager
nobody = record (new_manager
    (record { host = []; guid = no_guid; address = [] })) { condition = Down None }

-- the manager at an index
abbrev pub manager_at : Network → ℕ → Manager
manager_at n i = unwrap_or (slice_get n.managers i) nobody

-- it is this one now
abbrev pub with_manager : Network → ℕ → Manager → Network
with_manager n i m = record n { managers = slice_set n.managers i m }

-- who they are
abbrev pub identities : Network → List Identity
identities n = map (λ m. m.state.identity) n.managers

-- The connections: a manager has at most one.

-- a manager is an end of a connection
abbrev pub is_end : ℕ → Connection → Bool
is_end i c = c.first == i || c.second == i

-- the connection of a manager
abbrev pub connection_of : Network → ℕ → Option Connection
connection_of n i = find (is_end i) n.connections

-- it has one
abbrev pub is_connected : Network → ℕ → Bool
is_connected n i = list_any (is_end i) n.connections

-- the other end
abbrev pub other_end : ℕ → Connection → ℕ
other_end i c = if c.first == i then c.second else c.first

-- a packet can still be heard: its connection stands, and it was not dropped
abbrev pub is_underway : Network → Note → Bool
is_underway n note = not note.dropped && list_any (λ c. c.number == note.connection) n.connections

-- The start.

-- a manager with a record of its identity, and one of each peer
abbrev pub formatted : Identity → List Identity → Manager
formatted own peers = unlinked (fold apply (empty own) (map (λ peer. entry.Peer peer) peers))

-- the managers that are not this one
abbrev pub others : List Identity → Identity → List Identity
others known own = filter (λ peer. not (same_guid peer.guid own.guid)) known

-- managers that know one another, and have nothing else
abbrev pub start : List Identity → Network
start known = record {
  managers = map (λ own. formatted own (others known own)) known;
  connections = [];
  connected = 0;
  notes = [];
  ledger = [];
}
