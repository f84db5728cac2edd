-- What holds of each header and message that a program has: its numbers fit their types.
use Rattle.std.specs.Prelude.{◌<◌, ◌^◌, All, IfSome}
use Rattle.mqb_base.specs.declared.heads.TxHead.{TxHead}
use Rattle.mqb_base.specs.declared.message.Message.{Message}
use Rattle.mqb_base.specs.declared.ids.MessageId.{MessageId}
use Rattle.mqb_names.specs.Values.{AreBytes, IsQueueName}

pub record IsMessageId (id : MessageId) : Type 0 where
  pub qm : AreBytes 16 id.qm.0
  pub number : id.number < 2 ^ 32

pub record IsTxHead (head : TxHead) : Type 0 where
  pub ordinal : head.sequence.ordinal < 2 ^ 32
  pub stamp : head.sequence.stamp < 2 ^ 32
  pub number : head.number < 2 ^ 32
  pub previous : head.previous < 2 ^ 32

-- Its names are names.
pub record IsMessage (m : Message) : Type 0 where
  pub id : IsMessageId m.id
  pub class : m.class.0 < 2 ^ 16
  pub sent : m.sent < 2 ^ 32
  pub life : m.life < 2 ^ 32
  pub destination : IsQueueName m.destination
  pub admin : IfSome m.admin IsQueueName
  pub response : IfSome m.response IsQueueName
  pub correlation : IsMessageId m.correlation
  pub body_type : m.body_type < 2 ^ 32
  pub tag : m.tag < 2 ^ 32
  pub label : All (λ unit. unit < 2 ^ 16) m.label
