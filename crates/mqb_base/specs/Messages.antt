use Rattle.std.specs.Prelude.{ℕ, ◌≤◌, IsTrue, length}
use Rattle.mqb_base.specs.declared.message.Message.{Message}
use Rattle.mqb_base.specs.declared.bits.TheConstants.{MAX_ACK, MAX_JOURNAL}
use Rattle.mqb_base.specs.declared.message.TheConstants.{MAX_PRIORITY, MAX_LABEL}
use Rattle.mqb_base.specs.Classes.{is_class}
use Rattle.mqb_base.specs.QueueNames.{names_queue, absent_or_queue}

-- a message that a packet can carry
pub record IsWellFormed (m : Message) : Type 0 where
  pub priority : m.priority ≤ MAX_PRIORITY
  pub ack : m.ack ≤ MAX_ACK
  pub journal : m.journal ≤ MAX_JOURNAL
  pub label : length m.label ≤ MAX_LABEL
  pub class : IsTrue (is_class m.class.0)
  pub destination : IsTrue (names_queue m.destination)
  pub admin : IsTrue (absent_or_queue m.admin)
  pub response : IsTrue (absent_or_queue m.response)
