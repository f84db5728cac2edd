-- What notices say is true.
use Rattle.std.specs.Prelude.{◌++◌, ◌≡◌, IsTrue, List, None, Option, Some, filter_map}
use Rattle.std.specs.Prelude.{flat_map, map}
use Rattle.mqb_base.specs.Classes.{is_arrival_refusal}
use Rattle.mqb_base.specs.declared.ids.MessageId.{MessageId}
use Rattle.mqb_base.specs.declared.ledger.Line.{Line}
use Rattle.mqb_base.specs.declared.ledger.Line.TheVariants as line
use Rattle.mqb_base.specs.declared.message.Message.{Message}
use Rattle.mqb_exactly_once.specs.Words.{In}
use Rattle.mqb_model.specs.state.State.{State}
use Rattle.mqb_network.specs.Courses.{Course}
use Rattle.mqb_network.specs.Laws.{Always, lines_written}
use Rattle.mqb_orders.specs.Rows.{Row}
use Rattle.mqb_packet.specs.declared.packet.Packet.{Packet}
use Rattle.mqb_packet.specs.declared.packet.Packet.TheVariants as packet
use Rattle.mqb_plain.specs.Lists.{messages_of}
use Rattle.mqb_plain.specs.Plain.{PlainLists}
use Rattle.mqb_queue.specs.Lists.{Lists}
use Rattle.mqb_queue.specs.Places.{Places, Queue}

-- Which messages there are.

-- those of a place
abbrev pub all_of : Lists → List Message
all_of l = l.durable ++ l.express

-- of a queue and its journal
abbrev pub in_queue : Queue → List Message
in_queue q = all_of q.lists ++ all_of q.journal

-- of all places
abbrev pub in_places : Places → List Message
in_places p = flat_map in_queue p.queues ++ all_of p.dead ++ all_of p.dead_xact ++ all_of p.journal

-- the plain ones that wait for a peer
abbrev pub for_peer : PlainLists → List Message
for_peer p = messages_of p.recoverable ++ messages_of p.express

-- those that a row keeps
abbrev pub in_row : Row → List Message
in_row row = map (λ k. k.message) row.kept

-- those of a manager
abbrev pub held : State → List Message
held s = in_places s.places ++ flat_map for_peer s.plain ++ flat_map in_row s.outs

-- that of a packet
abbrev pub message_in : Packet → Option Message
message_in (packet.User p) = Some p.message
message_in _ = None

-- a manager has a message, or it went in a packet
abbrev pub noticed : Course → List Message
noticed c = flat_map (λ m. held m.state) c.network.managers ++ filter_map message_in c.sent

-- a message says that another one was refused where it arrived, or did not arrive in its time
abbrev pub Refuses : MessageId → Message → Type 0
Refuses id m = (m.correlation ≡ id) × IsTrue (is_arrival_refusal m.class.0)

-- What lines say of messages.

abbrev pub committed_in : Line → Option MessageId
committed_in (line.Committed stream number id) = Some id
committed_in _ = None

abbrev pub put_in : Line → Option MessageId
put_in (line.Put stream number id) = Some id
put_in _ = None

-- it expired at its source, or its destination refused it
abbrev pub failed_in : Line → Option MessageId
failed_in (line.Expired stream number id moment) = Some id
failed_in (line.Refused stream number class id) = Some id
failed_in _ = None

abbrev pub local_in : Line → Option MessageId
local_in (line.Local id) = Some id
local_in _ = None

-- the messages of which the records of a course say so, in order
abbrev pub told_by : (Line → Option MessageId) → Course → List MessageId
told_by kind c = filter_map kind (lines_written c.written)

-- A refusal of a message that was committed names one that expired or was refused.
abbrev pub AreRefusalsTrue : Course → Type 0
AreRefusalsTrue c = (m : Message) (id : MessageId) → In m (noticed c) → Refuses id m
    → In id (told_by committed_in c) → In id (told_by failed_in c)

-- None names a message that was put at its source.
abbrev pub IsNoLocalRefused : Course → Type 0
IsNoLocalRefused c = (m : Message) (id : MessageId) → In m (noticed c) → Refuses id m
    → In id (told_by local_in c) → ⊥

-- What expired or was refused was never put.
abbrev pub IsNoFailurePut : Course → Type 0
IsNoFailurePut c = (id : MessageId) → In id (told_by failed_in c) → In id (told_by put_in c) → ⊥

-- What a refusal says is so: the committed message that it names expired or was refused, and was
-- never put, and no message of its source's own queues is named.
pub record IsTruthful (c : Course) : Type 0 where
  pub of_committed : AreRefusalsTrue c
  pub not_local : IsNoLocalRefused c
  pub not_put : IsNoFailurePut c

-- Notices tell the truth, at each point of each run.
abbrev pub AlwaysTruthful : Type 0
AlwaysTruthful = Always IsTruthful
