-- What the lines of the ledger say of messages that expire.
use Rattle.std.specs.Prelude.{◌++◌, ◌∷◌, None, Option, Some, filter_map, ◌<◌, ◌≡◌, IsTrue, List, ℕ}
use Rattle.mqb_base.specs.declared.heads.TxHead.{TxHead}
use Rattle.mqb_base.specs.declared.ids.Guid.{Guid}
use Rattle.mqb_base.specs.declared.ids.MessageId.{MessageId}
use Rattle.mqb_base.specs.declared.ledger.Line.{Line}
use Rattle.mqb_base.specs.declared.ledger.Line.TheVariants as line
use Rattle.mqb_base.specs.declared.ledger.Stream.{Stream}
use Rattle.mqb_exactly_once.specs.Words.{In, due, position_of}
use Rattle.mqb_exactly_once.specs.World.{Channel, Commitment, Position}
use Rattle.mqb_model.specs.state.Rows.{stream_of}
use Rattle.mqb_model.specs.state.State.{State}
use Rattle.mqb_entries.specs.declared.members.Mark.{Mark}
use Rattle.mqb_model.specs.records.Record as entry
use Rattle.mqb_network.specs.Courses.{Course, Written}
use Rattle.mqb_network.specs.Laws.{lines_written}
use Rattle.mqb_network.specs.Network.{manager_at}
use Rattle.mqb_orders.specs.Rows.{Row}
use Rattle.mqb_orders.specs.declared.kept.Kept.{Kept}
use Rattle.mqb_packet.specs.declared.packet.Packet.TheVariants as packet
use Rattle.mqb_packet.specs.declared.packet.UserPacket.{UserPacket}
use Rattle.mqb_history.specs.Committed.{commitments}
use Rattle.mqb_history.specs.Decided.{decisions, written_of}
use Rattle.mqb_history.specs.Told.{joined_by}

-- An outgoing row of a state keeps the message, above the number that it offered last, and its time
-- to reach its queue is over at that moment.
pub record MayExpire (s : State) (stream : Stream) (number : ℕ) (id : MessageId)
    (moment : ℕ) : Type 0 where
  pub row : Row
  pub there : In row s.outs
  pub of_row : stream ≡ stream_of s row
  pub kept : Kept
  pub inside : In kept row.kept
  pub of_kept : number ≡ kept.number
  pub names : id ≡ kept.message.id
  pub unoffered : row.offered < kept.number
  pub due : IsTrue (due kept.message moment)

-- A message joined this stream under this number with this identifier, and it
-- was due at that moment.
pub record WasDue (own : Guid) (cs : List Commitment) (stream : Stream) (number : ℕ)
    (id : MessageId) (moment : ℕ) : Type 0 where
  pub commitment : Commitment
  pub there : In commitment cs
  pub joined : joined_by own commitment ≡ record { stream = stream; number = number; id = id }
  pub due : IsTrue (due commitment.message moment)

-- What a manager lets expire it had committed, and its time to reach its queue was over.
abbrev pub AreExpiredDuly : Course → Type 0
AreExpiredDuly c = (i : ℕ) (stream : Stream) (number : ℕ) (id : MessageId) (moment : ℕ)
    → In (line.Expired stream number id moment) (lines_written (written_of i c.written))
    → WasDue (manager_at c.network i).state.identity.guid
    (commitments (written_of i c.written)) stream number id moment

-- where a message stood that a line says expired
abbrev pub expiry_told : Line → Option Position
expiry_told (line.Expired stream number id moment) =
    Some (record { sequence = stream.sequence; number = number })
expiry_told _ = None

-- those of all lines, in order
abbrev pub expiries_told : List Line → List Position
expiries_told ledger = filter_map expiry_told ledger

-- What a manager offered never expires later: of the sequence of a mark only what
-- stands above it does.
abbrev pub AreOffersKept : Course → Type 0
AreOffersKept c =
    (i : ℕ) (before behind : List Written) (w : Written) (marks : List Mark) (mark : Mark)
    → written_of i c.written ≡ before ++ w ∷ behind → w.entry ≡ entry.Offered marks → In mark marks
    → (stream : Stream) (number : ℕ) (id : MessageId) (moment : ℕ)
    → In (line.Expired stream number id moment) (lines_written behind)
    → stream.sequence.ordinal ≡ mark.ordinal → mark.number < number

-- What was sent of a stream never expires at its source.
abbrev pub AreSentKept : Course → Type 0
AreSentKept c = (i : ℕ) (p : UserPacket) (tx : TxHead) → In (packet.User p) c.sent → p.tx ≡ Some tx
    → p.message.id.qm ≡ (manager_at c.network i).state.identity.guid
    → In (position_of tx) (expiries_told (lines_written (written_of i c.written))) → ⊥

-- Nor does what was decided.
abbrev pub AreDecidedKept : Course → Type 0
AreDecidedKept c = (i j : ℕ) (channel : Channel) (p : Position)
    → (manager_at c.network i).state.identity.guid ≡ channel.source
    → In p (decisions channel (written_of j c.written))
    → In p (expiries_told (lines_written (written_of i c.written))) → ⊥
