-- Two managers, and what they are given in small runs.
use Rattle.std.specs.Prelude.{[], ◌∷◌, Bool, List, None, Option, Some, codes, false, map, slice_get}
use Rattle.std.specs.Prelude.{unwrap_or, ℕ}
use Rattle.mqb_base.specs.declared.draft.Parts.{Parts}
use Rattle.mqb_base.specs.declared.heads.TxHead.{TxHead}
use Rattle.mqb_base.specs.declared.ids.Identity.{Identity}
use Rattle.mqb_base.specs.declared.ids.MessageId.{MessageId}
use Rattle.mqb_base.specs.declared.ledger.Stream.{Stream}
use Rattle.mqb_base.specs.declared.message.Message.{Message}
use Rattle.mqb_base.specs.declared.queue_names.Host.TheVariants.{Os}
use Rattle.mqb_base.specs.declared.queue_names.QueueName.{QueueName}
use Rattle.mqb_base.specs.declared.queue_names.QueueName.TheVariants.{Direct}
use Rattle.mqb_base.specs.declared.queues.QueuePlan.{QueuePlan}
use Rattle.mqb_base.specs.declared.times.TheConstants.{UNLIMITED}
use Rattle.mqb_packet.specs.declared.packet.Packet.{Packet}
use Rattle.mqb_packet.specs.declared.packet.Packet.TheVariants as packet
use Rattle.mqb_session.specs.State.{new_initiator, no_guid}
use Rattle.mqb_session.specs.State as one_end
use Rattle.mqb_session.specs.declared.phase.Phase.TheVariants as phase
use Rattle.mqb_model.specs.calls.CreateQueue.{create_queue}
use Rattle.mqb_model.specs.calls.hear.Session.{no_head}
use Rattle.mqb_model.specs.managers.Manager.{Manager, unlinked}
use Rattle.mqb_model.specs.managers.Outcomes.{Outcome, succeeded}
use Rattle.mqb_model.specs.records.Applying.{apply}
use Rattle.mqb_model.specs.records.Record as entry
use Rattle.mqb_model.specs.state.State.{empty}

-- the first manager
abbrev pub alpha : Identity
alpha = record {
  host = codes "alpha";
  guid = record {
    0 = 0x0A ∷ 0x0B ∷ 0x0C ∷ 0x0D ∷ 0x11 ∷ 0x12 ∷ 0x13 ∷ 0x14 ∷ 0x15 ∷ 0x16 ∷ 0x17 ∷ 0x18 ∷ 0x19
        ∷ 0x1A ∷ 0x1B ∷ 0x1C ∷ [];
  };
  address = 10 ∷ 0 ∷ 0 ∷ 1 ∷ [];
}

-- the second manager
abbrev pub beta : Identity
beta = record {
  host = codes "beta";
  guid = record {
    0 = 0x2A ∷ 0x2B ∷ 0x2C ∷ 0x2D ∷ 0x31 ∷ 0x32 ∷ 0x33 ∷ 0x34 ∷ 0x35 ∷ 0x36 ∷ 0x37 ∷ 0x38 ∷ 0x39
        ∷ 0x3A ∷ 0x3B ∷ 0x3C ∷ [];
  };
  address = 10 ∷ 0 ∷ 0 ∷ 2 ∷ [];
}

-- a manager that knows one other, and has nothing else
abbrev pub manager_of : Identity → Identity → Manager
manager_of own other = unlinked (apply (empty own) (entry.Peer other))

-- a queue that is to be
abbrev pub plan : List ℕ → Bool → ℕ → Bool → QueuePlan
plan name transactional quota journal = record {
  name = name;
  public = None;
  transactional = transactional;
  quota = quota;
  journal = journal;
}

-- a direct name
abbrev pub queue_at : List ℕ → List ℕ → QueueName
queue_at host queue = Direct (Os host) queue false

-- what a sender chooses: a destination, a time to reach it, and journal bits
abbrev pub parts_of : QueueName → ℕ → ℕ → List ℕ → Parts
parts_of destination reach journal body = record {
  destination = destination;
  priority = 3;
  reach = reach;
  life = UNLIMITED;
  admin = None;
  response = None;
  ack = 0;
  journal = journal;
  correlation = record { qm = no_guid; number = 0 };
  body_type = 0;
  tag = 0;
  label = [];
  extension = [];
  body = body;
}

-- where alpha's messages go: to a transactional queue, and to one that is not
abbrev pub orders : QueueName
orders = queue_at (codes "beta") (codes "orders")

abbrev pub remote_notes : QueueName
remote_notes = queue_at (codes "beta") (codes "notes")

-- a queue of the manager itself, by a dot
abbrev pub own_notes : QueueName
own_notes = queue_at (codes ".") (codes "notes")

-- messages of the two
abbrev pub of_alpha : ℕ → MessageId
of_alpha number = record { qm = alpha.guid; number = number }

abbrev pub of_beta : ℕ → MessageId
of_beta number = record { qm = beta.guid; number = number }

-- the stream of alpha to orders with an ordinal, which begins at 1000
abbrev pub to_orders : ℕ → Stream
to_orders ordinal = record {
  source = alpha.guid;
  destination = orders;
  sequence = record { ordinal = ordinal; stamp = 1000 };
}

-- the identifiers of messages
abbrev pub ids_of : List Message → List MessageId
ids_of messages = map (λ m. m.id) messages

-- a session that is ready, with windows of 64 on both sides
abbrev pub ready_session : Identity → Identity → one_end.State
ready_session own other =
    record (new_initiator own.guid other.guid 64) { phase = phase.Ready; peer_window = 64 }

-- a manager whose session with another is ready
abbrev pub ready : Manager → Identity → Manager
ready m other =
    record m { rest = record m.rest { session = Some (ready_session m.state.identity other) } }

-- the packet of a pump at an index, or else a session acknowledgement
abbrev pub packet_at : {A : Type 0} → Outcome A → ℕ → Packet
packet_at outcome k = unwrap_or (slice_get outcome.packets k) (packet.Ack no_head)

-- the transaction headers of packets
abbrev pub tx_in : Packet → Option TxHead
tx_in (packet.User p) = p.tx
tx_in _ = None

-- with a queue that was made by its call
abbrev pub with_queue_of : Manager → QueuePlan → Manager
with_queue_of m given = succeeded m (create_queue m given)
