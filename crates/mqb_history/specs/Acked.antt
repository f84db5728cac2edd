-- What is acknowledged was decided.
use Rattle.std.specs.Prelude.{◌&&◌, ◌<◌, ◌==◌, ◌≡◌, ◌≤◌, ◌⊎◌, Bool, None, Some, false, slice_get}
use Rattle.std.specs.Prelude.{true, ℕ}
use Rattle.mqb_base.specs.declared.class.TheConstants.Class.{ORDER_ACKNOWLEDGEMENT}
use Rattle.mqb_base.specs.declared.ids.Identity.{Identity}
use Rattle.mqb_base.specs.declared.message.Message.{Message}
use Rattle.mqb_base.specs.declared.queue_names.QueueName.{QueueName}
use Rattle.mqb_exactly_once.specs.Words.{In}
use Rattle.mqb_exactly_once.specs.World.{Commitment, Position}
use Rattle.mqb_fate.specs.Orders.{ack_body, is_final_class}
use Rattle.mqb_model.specs.state.Places.{is_express}
use Rattle.mqb_model.specs.state.State.{State}
use Rattle.mqb_network.specs.Courses.{Course}
use Rattle.mqb_network.specs.Laws.{lines_written}
use Rattle.mqb_network.specs.Network.{Note, manager_at}
use Rattle.mqb_orders.specs.Rows.{Row}
use Rattle.mqb_packet.specs.declared.packet.Packet.TheVariants as packet
use Rattle.mqb_packet.specs.declared.packet.UserPacket.{UserPacket}
use Rattle.mqb_queue.specs.Places.{numbered}
use Rattle.mqb_history.specs.Committed.{commitments}
use Rattle.mqb_history.specs.Decided.{decisions, written_of}
use Rattle.mqb_history.specs.Expired.{expiries_told}

-- The packets.

-- an express message of the class by which orders are acknowledged
abbrev pub is_order_ack : Message → Bool
is_order_ack m = is_express m.delivery && m.class.0 == ORDER_ACKNOWLEDGEMENT.0

-- An order acknowledgement is its sender's own, and spells a position that it decided of a channel
-- whose source is the manager to which it goes.
pub record SpellsDecided (c : Course) (sender : ℕ) (p : UserPacket) : Type 0 where
  pub source : p.message.id.qm ≡ (manager_at c.network sender).state.identity.guid
  pub position : Position
  pub spelled : p.message.body
      ≡ ack_body (record { sequence = position.sequence; number = position.number })
  pub destination : QueueName
  pub decided : In position (decisions (record { source = p.to; destination = destination })
      (written_of sender c.written))

-- The message of another manager's stream that a final acknowledgement names was
-- decided by its sender.
abbrev pub NamesDecided : Course → ℕ → UserPacket → Type 0
NamesDecided c sender p = (i : ℕ) (m : Commitment) → (i ≡ sender → ⊥)
    → In m (commitments (written_of i c.written)) → m.message.id ≡ p.message.correlation
    → In m.position (decisions (record {
      source = (manager_at c.network i).state.identity.guid;
      destination = m.message.destination;
    }) (written_of sender c.written))

-- what a packet acknowledges that is in no stream
pub record AcknowledgesTruly (c : Course) (sender : ℕ) (p : UserPacket) : Type 0 where
  pub order : is_order_ack p.message ≡ true → SpellsDecided c sender p
  pub final : is_express p.message.delivery ≡ false → is_final_class p.message.class ≡ true
      → NamesDecided c sender p

-- Whatever a packet acknowledges that was ever sent was decided by its sender.
abbrev pub AreAcknowledgingTruly : Course → Type 0
AreAcknowledgingTruly c =
    (k : ℕ) (note : Note) (p : UserPacket) → numbered c.network.notes k ≡ Some note
    → numbered c.sent k ≡ Some (packet.User p) → p.tx ≡ None
    → AcknowledgesTruly c note.sender p

-- The rows.

-- a row of a manager leads to another one
pub record LeadsTo (c : Course) (i : ℕ) (row : Row) (j : ℕ) : Type 0 where
  pub peer : Identity
  pub there : slice_get (manager_at c.network i).state.peers row.peer ≡ Some peer
  pub is : (manager_at c.network j).state.identity.guid ≡ peer.guid

-- the manager to which a row leads decided a number of it
pub record IsDecidedThere (c : Course) (i : ℕ) (row : Row) (number : ℕ) : Type 0 where
  pub decider : ℕ
  pub leads : LeadsTo c i row decider
  pub decided : In (record { sequence = row.sequence; number = number })
      (decisions (record {
        source = (manager_at c.network i).state.identity.guid;
        destination = row.destination;
      }) (written_of decider c.written))

-- Each number up to the acknowledged one of a row was decided where the row leads, or expired.
abbrev pub AreAcknowledgedTruly : Course → Type 0
AreAcknowledgedTruly c =
    (i : ℕ) (row : Row) (n : ℕ) → In row (manager_at c.network i).state.outs → 0 < n → n ≤ row.acked
    → IsDecidedThere c i row n ⊎ In (record { sequence = row.sequence; number = n })
    (expiries_told (lines_written (written_of i c.written)))

-- Committed messages.

-- its row stands, leads to its destination, and keeps it above the number that is acknowledged
pub record WaitsAbove (s : State) (m : Commitment) : Type 0 where
  pub row : Row
  pub there : In row s.outs
  pub sequence : row.sequence ≡ m.position.sequence
  pub destination : row.destination ≡ m.message.destination
  pub above : row.acked < m.position.number
  pub kept : In (record { number = m.position.number; message = m.message }) row.kept

-- its row stands, leads to its destination, and the manager there decided it
pub record WasDecidedThere (c : Course) (i : ℕ) (m : Commitment) : Type 0 where
  pub row : Row
  pub there : In row (manager_at c.network i).state.outs
  pub sequence : row.sequence ≡ m.position.sequence
  pub destination : row.destination ≡ m.message.destination
  pub decided : IsDecidedThere c i row m.position.number

-- Each message that a manager committed waits in its row above the acknowledged number, or was
-- decided where that leads, or expired.
abbrev pub AreWaitingUntilDecided : Course → Type 0
AreWaitingUntilDecided c = (i : ℕ) (m : Commitment) → In m (commitments (written_of i c.written))
    → WaitsAbove (manager_at c.network i).state m ⊎ (WasDecidedThere c i m
    ⊎ In m.position (expiries_told (lines_written (written_of i c.written))))
