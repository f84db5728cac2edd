-- The order layer of a manager: its queue, and the messages that are for it alone.
use Rattle.std.specs.Prelude.{ℕ, Bool, false, ◌==◌, ◌&&◌, ◌||◌, nat_le, List, [], ◌++◌, length}
use Rattle.std.specs.Prelude.{drop, replicate, codes, Option, Some, None, if◌then◌else◌}
use Rattle.byteorder.specs.Endian.{little_bytes, little_number}
use Rattle.mqb_base.specs.declared.class.Class.{Class}
use Rattle.mqb_base.specs.declared.class.TheConstants.Class.{
  ORDER_ACKNOWLEDGEMENT,
  RECEIVED,
  BAD_DESTINATION,
  MESSAGE_NOT_TRANSACTIONAL,
  QUEUE_DELETED,
  RECEIVE_TIMEOUT,
}
use Rattle.mqb_base.specs.declared.ids.MessageId.{MessageId}
use Rattle.mqb_base.specs.declared.message.Delivery.TheVariants.{Express}
use Rattle.mqb_base.specs.declared.message.Message.{Message}
use Rattle.mqb_base.specs.declared.names.Name.{Name}
use Rattle.mqb_base.specs.declared.queue_names.Host.TheVariants.{Os}
use Rattle.mqb_base.specs.declared.queue_names.QueueName.{QueueName}
use Rattle.mqb_base.specs.declared.queue_names.QueueName.TheVariants.{Direct}
use Rattle.mqb_base.specs.declared.times.TheConstants.{UNLIMITED}
use Rattle.mqb_base.specs.Same.{same_ignoring_case}
use Rattle.mqb_fate.specs.declared.notices.TheConstants.{NOTICE_PRIORITY}
use Rattle.mqb_fate.specs.declared.orders.OrderAck.{OrderAck}

-- the queue name that means the order layer
abbrev pub is_order_name : Name → Bool
is_order_name name = same_ignoring_case name (codes "order_queue$")

-- a name of some manager's order layer
abbrev pub names_order_layer : QueueName → Bool
names_order_layer (Direct host queue false) = is_order_name queue
names_order_layer _ = false

-- the queue of the order layer at a host
abbrev pub order_layer : Name → QueueName
order_layer host = Direct (Os host) (codes "order_queue$") false

abbrev pub is_between : Class → Class → Class → Bool
is_between low high class = nat_le low.0 class.0 && nat_le class.0 high.0

-- the classes of a final acknowledgement
abbrev pub is_final_class : Class → Bool
is_final_class class =
    class.0 == RECEIVED.0 || is_between BAD_DESTINATION MESSAGE_NOT_TRANSACTIONAL class
    || is_between QUEUE_DELETED RECEIVE_TIMEOUT class

-- the body of an order acknowledgement: the sequence, the last decided number, and four
-- bytes that mean nothing
abbrev pub ack_body : OrderAck → List ℕ
ack_body a = little_bytes 4 a.sequence.ordinal ++ little_bytes 4 a.sequence.stamp
    ++ little_bytes 4 a.number ++ little_bytes 4 0

-- what a body of sixteen bytes acknowledges
abbrev pub acked_by : List ℕ → Option OrderAck
acked_by body = if length body == 16
    then Some (record {
      sequence = record { ordinal = little_number 4 body; stamp = little_number 4 (drop 4 body) };
      number = little_number 4 (drop 8 body);
    })
    else None

-- the express message that tells a source at a host what was decided last
abbrev pub order_acknowledgement : OrderAck → Name → MessageId → ℕ → Message
order_acknowledgement a host id now = record {
  id = id;
  class = ORDER_ACKNOWLEDGEMENT;
  delivery = Express;
  priority = NOTICE_PRIORITY;
  sent = now;
  reach = UNLIMITED;
  life = UNLIMITED;
  destination = order_layer host;
  admin = None;
  response = None;
  ack = 0;
  journal = 0;
  correlation = record { qm = record { 0 = replicate 16 0 }; number = 0 };
  body_type = 0;
  tag = 0;
  label = [];
  extension = [];
  body = ack_body a;
}
