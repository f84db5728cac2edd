use Rattle.std.specs.Prelude.{ℕ, ◌&&◌, [], Option, Some, None, if◌then◌else◌}
use Rattle.std.specs.Option.{option_map}
use Rattle.mqb_base.specs.declared.ids.Guid.{Guid}
use Rattle.mqb_base.specs.declared.ids.Identity.{Identity}
use Rattle.mqb_base.specs.declared.ids.MessageId.{MessageId}
use Rattle.mqb_base.specs.declared.class.Class.{Class}
use Rattle.mqb_base.specs.declared.message.Message.{Message}
use Rattle.mqb_base.specs.declared.message.Delivery.{Delivery}
use Rattle.mqb_base.specs.declared.message.Delivery.TheVariants.{Express, Recoverable}
use Rattle.mqb_base.specs.declared.queue_names.QueueName.{QueueName}
use Rattle.mqb_base.specs.declared.times.TheConstants.{UNLIMITED}
use Rattle.mqb_fate.specs.declared.notices.TheConstants.{NOTICE_PRIORITY}
use Rattle.mqb_fate.specs.Asking.{is_ordinary, asks_for, final_is_due}
use Rattle.mqb_fate.specs.Orders.{order_layer}

-- What a notice about a message says: which message it was and which class it met. It is sent now,
-- is not limited in time and asks for nothing.
abbrev pub notice_about : Message → Class → Delivery → QueueName → MessageId → ℕ → Message
notice_about m class delivery destination id now = record {
  id = id;
  class = class;
  delivery = delivery;
  priority = NOTICE_PRIORITY;
  sent = now;
  reach = UNLIMITED;
  life = UNLIMITED;
  destination = destination;
  admin = None;
  response = None;
  ack = 0;
  journal = 0;
  correlation = m.id;
  body_type = 0;
  tag = 0;
  label = [];
  extension = [];
  body = [];
}

-- an administration message is express where its cause was
abbrev pub admin_delivery : Delivery → Delivery
admin_delivery Express = Express
admin_delivery _ = Recoverable

-- the administration message that follows where a message meets a class
abbrev pub admin_notice : Message → Class → Guid → ℕ → ℕ → Option Message
admin_notice m class own number now = if is_ordinary m && asks_for m class
    then option_map (λ admin. notice_about m class (admin_delivery m.delivery) admin
    (record { qm = own; number = number }) now) m.admin
    else None

-- the final acknowledgement to the source that follows
abbrev pub final_notice : Message → Class → Guid → Identity → ℕ → ℕ → Option Message
final_notice m class own peer number now = if final_is_due m class own
    then Some (notice_about m class Recoverable (order_layer peer.host)
    (record { qm = own; number = number }) now)
    else None
