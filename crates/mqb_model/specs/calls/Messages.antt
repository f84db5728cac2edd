-- The messages that a manager makes of what their senders choose.
use Rattle.std.specs.Prelude.{Bool, false, true, ℕ}
use Rattle.mqb_base.specs.declared.class.TheConstants.Class.{NORMAL}
use Rattle.mqb_base.specs.declared.draft.Parts.{Parts}
use Rattle.mqb_base.specs.declared.ids.MessageId.{MessageId}
use Rattle.mqb_base.specs.declared.message.Delivery.{Delivery}
use Rattle.mqb_base.specs.declared.message.Delivery.TheVariants as delivery
use Rattle.mqb_base.specs.declared.message.Message.{Message}
use Rattle.mqb_model.specs.rules.Numbers.{own_id}
use Rattle.mqb_model.specs.state.State.{State}

-- an identifier, a delivery, a priority and a moment, and the rest is the sender's
abbrev pub message_of : MessageId → Delivery → ℕ → ℕ → Parts → Message
message_of id delivery priority now p = record {
  id = id;
  class = NORMAL;
  delivery = delivery;
  priority = priority;
  sent = now;
  reach = p.reach;
  life = p.life;
  destination = p.destination;
  admin = p.admin;
  response = p.response;
  ack = p.ack;
  journal = p.journal;
  correlation = p.correlation;
  body_type = p.body_type;
  tag = p.tag;
  label = p.label;
  extension = p.extension;
  body = p.body;
}

-- the message of a send in a transaction: its number is the next, and its priority 0
abbrev pub message_for : State → ℕ → Parts → Message
message_for s now p = message_of (own_id s s.next_number) delivery.Transactional 0 now p

-- a message that is not transactional: its number is the next of its kind
abbrev pub plain_message : State → Bool → ℕ → Parts → Message
plain_message s true now p =
    message_of (own_id s s.next_number) delivery.Recoverable p.priority now p
plain_message s false now p = message_of (own_id s s.next_express) delivery.Express p.priority now p
