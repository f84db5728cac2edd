-- The records of a store, with values in the place of bytes.
use Rattle.std.specs.Prelude.{List, ℕ}
use Rattle.mqb_base.specs.declared.ids.Identity as ids
use Rattle.mqb_base.specs.declared.ids.MessageId.{MessageId}
use Rattle.mqb_base.specs.declared.queues.EntryPlace.{EntryPlace}
use Rattle.mqb_base.specs.declared.queues.QueuePlan.{QueuePlan}
use Rattle.mqb_entries.specs.declared.members.Mark.{Mark}
use Rattle.mqb_packet.specs.declared.packet.UserPacket.{UserPacket}

-- one op of a transaction: the packet of a message that is sent, or the message that is taken from
-- the queue of a number
pub data RecordOp : Type 0 where
  Send : UserPacket → RecordOp
  Take : (queue : ℕ) → MessageId → RecordOp

-- what arrived, beside the numbers that were released
pub data Part : Type 0 where
  Nothing : Part
  -- a transactional message that was next
  Decided : UserPacket → Part
  -- a recoverable message
  Stored : UserPacket → Part
  OrderAcknowledged : (ordinal number : ℕ) → Part
  -- a final acknowledgement
  Final : UserPacket → Part

-- what a manager is set to, which touches neither rows nor lists
pub data Setting : Type 0 where
  -- so many messages fill a sequence
  Roll : (count : ℕ) → Setting

-- one record, by its kind
pub data Record : Type 0 where
  Identity : ids.Identity → Record
  Peer : ids.Identity → Record
  CreateQueue : (number : ℕ) → QueuePlan → Record
  Commit : (now : ℕ) → List RecordOp → Record
  Plain : (now : ℕ) → UserPacket → Record
  Offered : List Mark → Record
  Arrived : (now : ℕ) → (released : List ℕ) → Part → Record
  Taken : (now : ℕ) → EntryPlace → MessageId → Record
  Purged : (now : ℕ) → EntryPlace → Record
  Ticked : (now : ℕ) → Record
  Set : Setting → Record
