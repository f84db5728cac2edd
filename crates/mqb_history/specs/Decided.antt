-- What the records of a manager say of the messages that it decides.
use Rattle.std.specs.List.{AllByRecursion}
use Rattle.std.specs.Prelude.{[], ◌&&◌, ◌==◌, ◌∷◌, Bool, IsTrue, List, None, Option, Some, filter}
use Rattle.std.specs.Prelude.{filter_map, if◌then◌else◌, ℕ}
use Rattle.mqb_base.specs.Same.{same_guid, same_name}
use Rattle.mqb_base.specs.declared.heads.TxHead.{TxHead}
use Rattle.mqb_base.specs.declared.message.Message.{Message}
use Rattle.mqb_exactly_once.specs.Words.{position_of, precedes}
use Rattle.mqb_exactly_once.specs.World.{Channel, Position}
use Rattle.mqb_model.specs.records.Record.{Record}
use Rattle.mqb_model.specs.records.Record as entry
use Rattle.mqb_network.specs.Courses.{Course, Written}

-- the records of one manager
abbrev pub written_of : ℕ → List Written → List Written
written_of i written = filter (λ w. w.by == i) written

-- a message belongs to a channel: to its source, and to its destination
abbrev pub is_in_channel : Channel → Message → Bool
is_in_channel c m = same_guid m.id.qm c.source && same_name m.destination c.destination

-- where a message of a channel stands there, where it is in a stream
abbrev pub position_in : Channel → Message → Option TxHead → Option Position
position_in c m None = None
position_in c m (Some tx) = if is_in_channel c m then Some (position_of tx) else None

-- the message of a channel that a record decides
abbrev pub decided_in : Channel → Record → Option Position
decided_in c (entry.Arrived now numbers (entry.Decided p)) = position_in c p.message p.tx
decided_in c _ = None

-- the messages of a channel that records decide, in order
abbrev pub decisions : Channel → List Written → List Position
decisions c written = filter_map (λ w. decided_in c w.entry) written

-- positions rise strictly: each is behind those before it
abbrev pub RiseStrictly : List Position → Type 0
RiseStrictly [] = Unit {0}
RiseStrictly (p ∷ ps) = AllByRecursion (λ q. IsTrue (precedes p q)) ps × RiseStrictly ps

-- Each manager decides the messages of each channel in the order of their positions, each once:
-- nothing of a sequence once something of a later one is decided, and no number again.
abbrev pub IsDecidedInOrder : Course → Type 0
IsDecidedInOrder c =
    (i : ℕ) (channel : Channel) → RiseStrictly (decisions channel (written_of i c.written))
