-- Which bytes the parts of a state are.
use Rattle.std.specs.Prelude.{[], ◌++◌, ◌≤◌, List, None, flat_map, length, ℕ}
use Rattle.mqb_base.specs.Messages.{IsWellFormed}
use Rattle.mqb_base.specs.declared.ids.Identity.{Identity}
use Rattle.mqb_base.specs.declared.message.Delivery.TheVariants as delivery
use Rattle.mqb_base.specs.declared.message.Message.{Message}
use Rattle.mqb_base.specs.declared.queue_names.QueueName.{QueueName}
use Rattle.mqb_base.specs.declared.queues.QueuePlan.{QueuePlan}
use Rattle.mqb_entries.specs.Spelled.{spelled_flag, spelled_guid, spelled_name}
use Rattle.mqb_entries.specs.Spelled.{spelled_packet, spelled_public}
use Rattle.mqb_fate.specs.Asking.{is_transactional}
use Rattle.mqb_fields.specs.Writing.{bytes_of}
use Rattle.mqb_heads.specs.declared.base.TheConstants.{MAX_PACKET}
use Rattle.mqb_names.specs.Wire.{kind_of, wire}
use Rattle.mqb_orders.specs.Rows.{Row}
use Rattle.mqb_orders.specs.declared.kept.Kept.{Kept}
use Rattle.mqb_orders.specs.declared.rows.InRow.{InRow}
use Rattle.mqb_packet.specs.Plain.{message_size, plain_user_packet}
use Rattle.mqb_packet.specs.declared.packet.Headers.TheVariants.{Bare}
use Rattle.mqb_packet.specs.declared.packet.UserPacket.{UserPacket}
use Rattle.mqb_plain.specs.Lists.{messages_of}
use Rattle.mqb_plain.specs.Plain.{PlainLists}
use Rattle.mqb_queue.specs.Places.{Places, Queue}
use Rattle.mqb_snapshot.specs.declared.messages.TheConstants.{NOBODY}

-- a number
abbrev pub word : ℕ → List ℕ
word number = bytes_of 4 number

-- a count, and so many members
abbrev pub counted : {X : Type 0} → (X → List ℕ) → List X → List ℕ
counted spell xs = word (length xs) ++ flat_map spell xs

-- the packet in which a store has a message: it is for no manager, and has the recoverable bit
-- and no further headers
abbrev pub stored : Message → UserPacket
stored m = record {
  message = record m { delivery = delivery.Recoverable };
  to = NOBODY;
  remaining = m.reach;
  tx = None;
  session = None;
}

-- what the user header of that packet says
abbrev pub header_of : Message → Message
header_of m = record m { delivery = delivery.Recoverable; label = []; extension = []; body = [] }

-- a message whose packet can be spelled
pub record IsSized (m : Message) : Type 0 where
  pub well_formed : IsWellFormed m
  pub size : message_size Bare m ≤ MAX_PACKET

-- a message: whether it is transactional, and its packet
abbrev pub spelled_message : Message → List ℕ
spelled_message m =
    spelled_flag (is_transactional m.delivery) ++ spelled_packet (plain_user_packet (stored m))

-- messages behind their count
abbrev pub spelled_messages : List Message → List ℕ
spelled_messages messages = counted spelled_message messages

abbrev pub spelled_identity : Identity → List ℕ
spelled_identity m = spelled_name m.host ++ spelled_guid m.guid ++ m.address

abbrev pub spelled_plan : QueuePlan → List ℕ
spelled_plan q = spelled_name q.name ++ spelled_public q.public ++ spelled_flag q.transactional
    ++ word q.quota ++ spelled_flag q.journal

-- what a queue holds, and what its journal holds
abbrev pub spelled_queue : Queue → List ℕ
spelled_queue q = spelled_messages q.lists.durable ++ spelled_messages q.journal.durable

-- what all places hold
abbrev pub spelled_places : Places → List ℕ
spelled_places p = flat_map spelled_queue p.queues ++ spelled_messages p.dead.durable
    ++ spelled_messages p.dead_xact.durable ++ spelled_messages p.journal.durable

-- the recoverable messages for a peer
abbrev pub spelled_plain : PlainLists → List ℕ
spelled_plain p = spelled_messages (messages_of p.recoverable)

-- a queue's name in its wire form, behind its type
abbrev pub spelled_destination : QueueName → List ℕ
spelled_destination name = bytes_of 1 (kind_of name) ++ wire name

abbrev pub spelled_kept : Kept → List ℕ
spelled_kept k = word k.number ++ spelled_message k.message

abbrev pub spelled_out : Row → List ℕ
spelled_out row = word row.peer ++ spelled_destination row.destination ++ word row.sequence.ordinal
    ++ word row.sequence.stamp
    ++ word row.committed ++ word row.offered ++ word row.acked ++ counted spelled_kept row.kept

abbrev pub spelled_in : InRow → List ℕ
spelled_in row = spelled_guid row.source ++ spelled_destination row.destination
    ++ word row.sequence.ordinal ++ word row.sequence.stamp ++ word row.last
