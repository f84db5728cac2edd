-- Small connections, worked out.
use Rattle.std.specs.Prelude.{[], ◌∷◌, ◌≡◌, Err, List, None, Ok, Some, codes, drop, false, length}
use Rattle.std.specs.Prelude.{map, take, true, ℕ}
use Rattle.mqb_base.specs.declared.heads.SessionHead.{SessionHead}
use Rattle.mqb_base.specs.declared.heard.Cause.TheVariants.{Early}
use Rattle.mqb_base.specs.declared.ids.Identity.{Identity}
use Rattle.mqb_base.specs.declared.message.Delivery.TheVariants.{Transactional}
use Rattle.mqb_base.specs.declared.times.TheConstants.{UNLIMITED}
use Rattle.mqb_fate.specs.Orders.{order_acknowledgement}
use Rattle.mqb_fields.specs.declared.faults.HeadKind.TheVariants.{Version}
use Rattle.mqb_orders.specs.KeptLists.{numbers}
use Rattle.mqb_packet.specs.Plain.{plain_spelling}
use Rattle.mqb_packet.specs.declared.packet.Packet.{Packet}
use Rattle.mqb_packet.specs.declared.packet.Packet.TheVariants as packet
use Rattle.mqb_session.specs.Phases.{own_parameters}
use Rattle.mqb_session.specs.State.{asking}
use Rattle.mqb_model.specs.calls.hear.Session.{no_head}
use Rattle.mqb_serving.specs.declared.purpose.Errand.TheVariants as errand
use Rattle.mqb_serving.specs.declared.purpose.Purpose.TheVariants as purpose
use Rattle.mqb_model.specs.managers.Manager.{Manager}
use Rattle.mqb_model.specs.declared.limits.TheConstants.{FIRST_EXPRESS}
use Rattle.mqb_model.specs.calls.Messages.{message_of}
use Rattle.mqb_model.specs.runs.Runs.{one_commit}
use Rattle.mqb_model.specs.runs.Samples.{alpha, beta, ids_of, manager_of, of_alpha, of_beta, orders}
use Rattle.mqb_model.specs.runs.Samples.{parts_of, plan, to_orders, with_queue_of}
use Rattle.mqb_serving.specs.Conversations.{Served, StoredManager, bytes_of, served, stored_after}
use Rattle.mqb_serving.specs.declared.faults.PeerFault.TheVariants as fault
use Rattle.mqb_serving.specs.declared.limits.TheConstants.{WINDOW}

-- the Establish of a manager to another at a moment
abbrev pub establish : Identity → Identity → ℕ → Packet
establish own other now = packet.Establish (asking own.guid other.guid now)

-- the Parameters of either
abbrev pub parameters : Packet
parameters = packet.Parameters (own_parameters WINDOW)

-- Alpha, which knows beta and has nothing else, is asked.

-- what it is and whom it knows are two records
abbrev pub two_records : Manager → StoredManager
two_records m = record { manager = m; count = 2 }

-- by these bytes
abbrev pub asked : List ℕ → Served
asked bytes = served (two_records (manager_of alpha beta)) purpose.Serve 1000 bytes

-- for a session
abbrev pub question : List Packet
question = establish beta alpha 999 ∷ parameters ∷ []

-- Asked for a session and then left alone, it answers with the same two packets, and ends well.
-- It writes no record.
pub record OneIsAsked : Type 0 where
  pub written : (asked (bytes_of question)).written ≡ bytes_of question
  pub count : length (bytes_of question) ≡ 604
  pub end : (asked (bytes_of question)).end ≡ Ok tt
  pub unlinked : (asked (bytes_of question)).stored.manager.rest.session ≡ None
  pub records : (asked (bytes_of question)).stored.count ≡ 2

-- the first bytes of them
abbrev pub first_bytes : List ℕ
first_bytes = take 15 (bytes_of question)

-- Where the bytes end in a base header, it writes nothing.
pub record OneIsCutOff : Type 0 where
  pub written : (asked first_bytes).written ≡ []
  pub end : (asked first_bytes).end ≡ Err fault.PeerClosed

-- a session acknowledgement
abbrev pub early : List Packet
early = packet.Ack no_head ∷ []

-- Before the session is ready it closes it.
pub record OneIsEarly : Type 0 where
  pub written : (asked (bytes_of early)).written ≡ []
  pub end : (asked (bytes_of early)).end ≡ Err (fault.Closed Early)

-- the base header of Parameters, but for its version
abbrev pub other_version : List ℕ
other_version = 0 ∷ drop 1 (take 16 (plain_spelling parameters))

-- Bytes that begin no packet end it at their place.
pub record OneIsBad : Type 0 where
  pub written : (asked other_version).written ≡ []
  pub end : (asked other_version).end ≡ Err (fault.Bad 0 (record { at = 0; kind = Version }))

-- Alpha pushes the message that it committed, to beta, which has the queue.

-- alpha has it
abbrev pub pushing : StoredManager
pushing = stored_after (two_records (manager_of alpha beta)) one_commit

-- beta has the queue
abbrev pub receiving : StoredManager
receiving = record {
  manager = with_queue_of (manager_of beta alpha) (plan (codes "orders") true 100 false);
  count = 3;
}

-- the header of its last packet, and of beta's
abbrev pub last_ack : SessionHead
last_ack =
    record { ack = 1; stored = 0; stored_flags = 0; user = 1; recoverable = 0; window = WINDOW }

-- the packet that carries the message
abbrev pub order : Packet
order = packet.User (record {
  message =
      message_of (of_alpha 1) Transactional 0 1000 (parts_of orders UNLIMITED 0 (codes "one"));
  to = beta.guid;
  remaining = UNLIMITED;
  tx = Some (record { sequence = (to_orders 1).sequence; number = 1; previous = 0 });
  session = Some (record last_ack { ack = 0 });
})

-- and the one that acknowledges it
abbrev pub order_ack : Packet
order_ack = packet.User (record {
  message =
      order_acknowledgement (record { sequence = (to_orders 1).sequence; number = 1 }) alpha.host
      (of_beta FIRST_EXPRESS) 1003;
  to = alpha.guid;
  remaining = UNLIMITED;
  tx = None;
  session = Some last_ack;
})

-- what alpha gives
abbrev pub from_alpha : List Packet
from_alpha = establish alpha beta 1001 ∷ parameters ∷ order ∷ packet.Ack last_ack ∷ []

-- what beta gives
abbrev pub from_beta : List Packet
from_beta = establish alpha beta 1001 ∷ parameters ∷ order_ack ∷ []

-- what alpha serves for what beta gives
abbrev pub pushed : Served
pushed = served pushing (purpose.Reach errand.Push 0) 1001 (bytes_of from_beta)

-- what beta serves for what alpha gives
abbrev pub received : Served
received = served receiving purpose.Serve 1003 (bytes_of from_alpha)

-- Each writes what the other reads, both end well, the message is in beta's queue, and alpha
-- keeps it no more. That is one record of beta, and two of alpha: that it offered the message,
-- and that beta has it.
pub record OneIsPushed : Type 0 where
  pub asks : pushed.written ≡ bytes_of from_alpha
  pub pushes : pushed.end ≡ Ok tt
  pub answers : received.written ≡ bytes_of from_beta
  pub serves : received.end ≡ Ok tt
  pub put : map (λ q. ids_of q.lists.durable) received.stored.manager.state.places.queues
      ≡ (of_alpha 1 ∷ []) ∷ []
  pub left : map (λ row. numbers row.kept) pushed.stored.manager.state.outs ≡ [] ∷ []
  pub one_record : received.stored.count ≡ 4
  pub two_records : pushed.stored.count ≡ 5
