-- What the lines of the ledger tell of streams.
use Rattle.std.specs.Prelude.{◌&&◌, ◌≡◌, Bool, List, None, Option, Some, filter_map, if◌then◌else◌}
use Rattle.std.specs.Prelude.{map, ℕ}
use Rattle.mqb_base.specs.Same.{same_guid, same_name}
use Rattle.mqb_base.specs.declared.ids.Guid.{Guid}
use Rattle.mqb_base.specs.declared.ids.MessageId.{MessageId}
use Rattle.mqb_base.specs.declared.ledger.Line.{Line}
use Rattle.mqb_base.specs.declared.ledger.Line.TheVariants as line
use Rattle.mqb_base.specs.declared.ledger.Stream.{Stream}
use Rattle.mqb_exactly_once.specs.World.{Channel, Commitment, Position}
use Rattle.mqb_network.specs.Courses.{Course}
use Rattle.mqb_network.specs.Laws.{lines_written}
use Rattle.mqb_network.specs.Network.{manager_at}
use Rattle.mqb_history.specs.Committed.{commitments}
use Rattle.mqb_history.specs.Decided.{written_of}

-- a stream belongs to a channel
abbrev pub is_of : Channel → Stream → Bool
is_of c stream = same_guid stream.source c.source && same_name stream.destination c.destination

-- where a message of a channel stands, by its stream and its number
abbrev pub place_in : Channel → Stream → ℕ → Option Position
place_in c stream number =
    if is_of c stream then Some (record { sequence = stream.sequence; number = number }) else None

-- the message of a channel that a line puts or refuses
abbrev pub decision_told : Channel → Line → Option Position
decision_told c (line.Put stream number id) = place_in c stream number
decision_told c (line.Refused stream number class id) = place_in c stream number
decision_told c _ = None

-- the decisions of a channel that lines tell, in order
abbrev pub decisions_told : Channel → List Line → List Position
decisions_told c ledger = filter_map (decision_told c) ledger

-- what a line tells of a message that joins a stream
pub record Joined : Type 0 where
  pub stream : Stream
  pub number : ℕ
  pub id : MessageId

abbrev pub commitment_told : Line → Option Joined
commitment_told (line.Committed stream number id) =
    Some (record { stream = stream; number = number; id = id })
commitment_told _ = None

-- the same of a commitment of a manager
abbrev pub joined_by : Guid → Commitment → Joined
joined_by own c = record {
  stream =
      record { source = own; destination = c.message.destination; sequence = c.position.sequence };
  number = c.position.number;
  id = c.message.id;
}

-- The ledger tells of each manager what it commits.
abbrev pub AreCommitmentsTold : Course → Type 0
AreCommitmentsTold c = (i : ℕ) → filter_map commitment_told (lines_written (written_of i c.written))
    ≡ map (joined_by (manager_at c.network i).state.identity.guid)
    (commitments (written_of i c.written))
