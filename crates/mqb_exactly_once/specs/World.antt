use Rattle.std.specs.Prelude.{ℕ, Bool, false, List, []}
use Rattle.mqb_base.specs.declared.heads.TxHead.{TxHead}
use Rattle.mqb_base.specs.declared.ids.Guid.{Guid}
use Rattle.mqb_base.specs.declared.ids.SequenceId.{SequenceId}
use Rattle.mqb_base.specs.declared.message.Message.{Message}
use Rattle.mqb_base.specs.declared.queue_names.QueueName.{QueueName}
use Rattle.mqb_exactly_once.specs.Outcomes.{Outcome, MessageFate}

-- a source manager, and a destination name as it was written
pub record Channel : Type 0 where
  pub source : Guid
  pub destination : QueueName

-- where a message stands in its channel: its sequence, and its number there
pub record Position : Type 0 where
  pub sequence : SequenceId
  pub number : ℕ

-- a message that joined a sequence
pub record Commitment : Type 0 where
  pub position : Position
  pub message : Message

-- a message whose time to reach its queue was over at its source
pub record Expiry : Type 0 where
  pub position : Position
  pub moment : ℕ

-- what the destination decided of a message that it heard. The message's time to reach its queue
-- is what was left of it
pub record Decision : Type 0 where
  pub position : Position
  pub message : Message
  pub outcome : Outcome

-- what the destination knows of a message's fate
pub record KnownFate : Type 0 where
  pub position : Position
  pub fate : MessageFate

-- A transactional packet. Of its message's time to reach its queue it has what was left when it was
-- sent. It does not show that moment.
pub record Transfer : Type 0 where
  pub head : TxHead
  pub message : Message
  pub sent_at : ℕ
  pub connection : ℕ

-- an order acknowledgement: the sequence is decided up to this number
pub record OrderAck : Type 0 where
  pub position : Position
  pub connection : ℕ

-- a final acknowledgement
pub record FinalAck : Type 0 where
  pub position : Position
  pub fate : MessageFate
  pub connection : ℕ

-- All sequences of one channel. Each list has its newest member first, and keeps all that ever
-- joined it: whatever was sent may come again.
pub record StreamWorld : Type 0 where
  pub channel : Channel
  -- at the source: the messages, and the marks of each sequence
  pub committed : List Commitment
  pub expired : List Expiry
  pub offered : SequenceId → ℕ
  pub acknowledged : SequenceId → ℕ
  -- at the destination
  pub decided : List Decision
  pub fates : List KnownFate
  -- between them
  pub transfers : List Transfer
  pub order_acks : List OrderAck
  pub final_acks : List FinalAck
  -- the number of the newest connection, and whether it stands
  pub connection : ℕ
  pub connected : Bool

-- before the first step
abbrev pub start : Channel → StreamWorld
start channel = record {
  channel = channel;
  committed = [];
  expired = [];
  offered = λ sequence. 0;
  acknowledged = λ sequence. 0;
  decided = [];
  fates = [];
  transfers = [];
  order_acks = [];
  final_acks = [];
  connection = 0;
  connected = false;
}
