-- Which packets brought what was decided.
use Rattle.std.specs.Prelude.{◌≡◌, IsTrue, Some, ℕ}
use Rattle.mqb_base.specs.declared.class.TheConstants.Class.{REACH_TIMEOUT}
use Rattle.mqb_base.specs.declared.ids.MessageId.{MessageId}
use Rattle.mqb_base.specs.declared.ledger.Line.TheVariants as line
use Rattle.mqb_base.specs.declared.ledger.Stream.{Stream}
use Rattle.mqb_exactly_once.specs.Words.{In, due}
use Rattle.mqb_exactly_once.specs.World.{Commitment}
use Rattle.mqb_network.specs.Courses.{Course}
use Rattle.mqb_network.specs.Laws.{Always, lines_written}
use Rattle.mqb_network.specs.Network.{Note, manager_at}
use Rattle.mqb_packet.specs.declared.packet.Packet.TheVariants as packet
use Rattle.mqb_packet.specs.declared.packet.UserPacket.{UserPacket}
use Rattle.mqb_queue.specs.Places.{numbered}
use Rattle.mqb_history.specs.Committed.{commitments}
use Rattle.mqb_history.specs.Decided.{written_of}
use Rattle.mqb_history.specs.Told.{joined_by}

-- A packet was sent at a moment at which its message was due, which its sender had committed to a
-- stream under a number.
pub record WasSentLate (c : Course) (stream : Stream) (number : ℕ) (id : MessageId) : Type 0 where
  pub index : ℕ
  pub note : Note
  pub noted : numbered c.network.notes index ≡ Some note
  pub content : UserPacket
  pub sent : numbered c.sent index ≡ Some (packet.User content)
  pub names : content.message.id ≡ id
  pub commitment : Commitment
  pub committed : In commitment (commitments (written_of note.sender c.written))
  pub joined : joined_by (manager_at c.network note.sender).state.identity.guid commitment
      ≡ record { stream = stream; number = number; id = id }
  pub due : IsTrue (due commitment.message note.moment)

-- A message that is refused because its time to reach its queue was over was sent so by its source.
abbrev pub AreRefusedLate : Course → Type 0
AreRefusedLate c = (stream : Stream) (number : ℕ) (id : MessageId)
    → In (line.Refused stream number REACH_TIMEOUT id) (lines_written c.written)
    → WasSentLate c stream number id

abbrev pub AlwaysRefusedLate : Type 0
AlwaysRefusedLate = Always AreRefusedLate
