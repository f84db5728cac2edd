-- How a course shows a stream world: there is one for each ordered pair of managers, and each
-- destination that leads from one to the other.
use Rattle.std.specs.List.{list_any}
use Rattle.std.specs.Prelude.{◌&&◌, ◌<◌, ◌==◌, ◌≡◌, Bool, IsTrue, List, None, Option, Some}
use Rattle.std.specs.Prelude.{filter_map, if◌then◌else◌, length, not, option_map, reverse}
use Rattle.std.specs.Prelude.{slice_get, ℕ}
use Rattle.mqb_base.specs.Same.{same_name}
use Rattle.mqb_base.specs.declared.class.Class.{Class}
use Rattle.mqb_base.specs.declared.class.TheConstants.Class.{BAD_DESTINATION}
use Rattle.mqb_base.specs.declared.class.TheConstants.Class.{QUEUE_NOT_TRANSACTIONAL, QUEUE_PURGED}
use Rattle.mqb_base.specs.declared.class.TheConstants.Class.{REACH_TIMEOUT, RECEIVED}
use Rattle.mqb_base.specs.declared.class.TheConstants.Class.{RECEIVE_TIMEOUT}
use Rattle.mqb_base.specs.declared.heads.TxHead.{TxHead}
use Rattle.mqb_base.specs.declared.ledger.Line.{Line}
use Rattle.mqb_base.specs.declared.ledger.Line.TheVariants as line
use Rattle.mqb_base.specs.declared.message.Message.{Message}
use Rattle.mqb_base.specs.declared.queue_names.QueueName.{QueueName}
use Rattle.mqb_exactly_once.specs.ExactlyOnce.{ExactlyOnce}
use Rattle.mqb_exactly_once.specs.Outcomes.{Bad_destination, MessageFate, Outcome, Put}
use Rattle.mqb_exactly_once.specs.Outcomes.{Queue_not_transactional, Queue_purged, Quota_exceeded}
use Rattle.mqb_exactly_once.specs.Outcomes.{Reach_timeout, Receive_timeout, Received, Refusal}
use Rattle.mqb_exactly_once.specs.Outcomes.{Refused, Was_put, Was_refused}
use Rattle.mqb_exactly_once.specs.Runs.{IsRun, after}
use Rattle.mqb_exactly_once.specs.Steps.{StreamStep}
use Rattle.mqb_exactly_once.specs.Words.{In, row}
use Rattle.mqb_exactly_once.specs.World.{Channel, Commitment, Decision, Expiry, FinalAck, OrderAck}
use Rattle.mqb_exactly_once.specs.World.{Position, StreamWorld, Transfer}
use Rattle.mqb_base.specs.declared.ids.SequenceId.{SequenceId}
use Rattle.mqb_fate.specs.Orders.{ack_body, is_final_class}
use Rattle.mqb_model.specs.Lists.{first_where}
use Rattle.mqb_model.specs.declared.target.Target.TheVariants.{AtPeer}
use Rattle.mqb_model.specs.records.Record.{Record}
use Rattle.mqb_model.specs.records.Record as entry
use Rattle.mqb_model.specs.rules.Arrivals.{refusal_of}
use Rattle.mqb_model.specs.state.Places.{is_express}
use Rattle.mqb_model.specs.state.Resolving.{resolved}
use Rattle.mqb_model.specs.state.Rows.{is_row_of}
use Rattle.mqb_model.specs.state.State.{State}
use Rattle.mqb_network.specs.Courses.{Course, Written}
use Rattle.mqb_network.specs.Laws.{lines_written}
use Rattle.mqb_network.specs.Network.{Connection, Network, Note, is_end, manager_at}
use Rattle.mqb_orders.specs.Rows.{Row}
use Rattle.mqb_orders.specs.declared.rows.InRow.{InRow}
use Rattle.mqb_packet.specs.declared.packet.Packet.{Packet}
use Rattle.mqb_packet.specs.declared.packet.Packet.TheVariants as packet
use Rattle.mqb_packet.specs.declared.packet.UserPacket.{UserPacket}
use Rattle.mqb_queue.specs.Places.{numbered}
use Rattle.mqb_history.specs.Committed.{commitments}
use Rattle.mqb_history.specs.Acked.{is_order_ack}
use Rattle.mqb_history.specs.Decided.{decisions, position_in, written_of}
use Rattle.mqb_history.specs.Fates.{ShowsFates}

-- The channel of a manager and a destination.

abbrev pub channel_of : Network → ℕ → QueueName → Channel
channel_of n i destination =
    record { source = (manager_at n i).state.identity.guid; destination = destination }

-- at one manager a destination leads to another
pub record Leads (n : Network) (i j : ℕ) (destination : QueueName) : Type 0 where
  pub there : j < length n.managers
  pub peer : ℕ
  pub target : resolved (manager_at n i).state destination ≡ AtPeer peer
  pub identity : option_map (λ p. p.guid) (slice_get (manager_at n i).state.peers peer)
      ≡ Some (manager_at n j).state.identity.guid

-- The source.

-- a commitment to a destination
abbrev pub to_destination : QueueName → Commitment → Option Commitment
to_destination destination x = if same_name x.message.destination destination then Some x else None

-- those of a list, in order
abbrev pub commitments_to : QueueName → List Commitment → List Commitment
commitments_to destination xs = filter_map (to_destination destination) xs

-- what a line says of a message to a destination that expired
abbrev pub expiry_to : QueueName → Line → Option Expiry
expiry_to destination (line.Expired stream number id moment) =
    if same_name stream.destination destination
    then Some (record {
      position = record { sequence = stream.sequence; number = number };
      moment = moment;
    })
    else None
expiry_to destination _ = None

-- those of a ledger, in order
abbrev pub expiries_to : QueueName → List Line → List Expiry
expiries_to destination ledger = filter_map (expiry_to destination) ledger

-- the marks of a row
pub record HasMarks (offered acknowledged : SequenceId → ℕ) (row : Row) : Type 0 where
  pub offers : offered row.sequence ≡ row.offered
  pub acks : acknowledged row.sequence ≡ row.acked

-- A manager's records and rows show what joined a channel, what expired in it, and its marks. In
-- the world the newest comes first.
pub record ShowsSource (destination : QueueName) (outs : List Row) (written : List Written)
    (committed : List Commitment) (expired : List Expiry)
    (offered acknowledged : SequenceId → ℕ) : Type 0 where
  pub commits : committed ≡ reverse (commitments_to destination (commitments written))
  pub expiries : expired ≡ reverse (expiries_to destination (lines_written written))
  pub marks : (row : Row) → In row outs → row.destination ≡ destination
      → HasMarks offered acknowledged row

-- The destination.

-- why a class refuses a message
abbrev pub reason_of : Class → Refusal
reason_of class = if class.0 == REACH_TIMEOUT.0 then Reach_timeout
    else if class.0 == BAD_DESTINATION.0 then Bad_destination
    else if class.0 == QUEUE_NOT_TRANSACTIONAL.0 then Queue_not_transactional
    else Quota_exceeded

-- what is decided of a message that is refused, or not
abbrev pub outcome_by : Option Class → Outcome
outcome_by None = Put
outcome_by (Some class) = Refused (reason_of class)

-- what a record decides in a channel that met a state
abbrev pub decision_in : Channel → State → Record → Option Decision
decision_in c s (entry.Arrived now numbers (entry.Decided p)) = option_map
    (λ position.
    record { position = position; message = p.message; outcome = outcome_by (refusal_of s p) })
    (position_in c p.message p.tx)
decision_in c s _ = None

-- those of records, in order
abbrev pub decisions_made : Channel → List Written → List Decision
decisions_made c written = filter_map (λ w. decision_in c w.before w.entry) written

-- A manager's records and rows show what was decided in a channel.
pub record ShowsDestination (c : Channel) (ins : List InRow) (written : List Written)
    (decided : List Decision) : Type 0 where
  pub decisions : decided ≡ reverse (decisions_made c written)
  pub row : first_where (is_row_of c.source c.destination) ins ≡ row c decided

-- Between them.

-- a packet of a stream is this transfer
pub record IsTransfer (note : Note) (p : UserPacket) (tx : TxHead) (t : Transfer) : Type 0 where
  pub head : t.head ≡ tx
  pub message : t.message ≡ p.message
  pub sent_at : t.sent_at ≡ note.moment

-- Each packet of the channel that was ever sent is a transfer, and those of the connection of a
-- number are transfers of the present one.
abbrev pub ShowsPackets : (i j : ℕ) → QueueName → List Note → List Packet → (number connection : ℕ)
    → List Transfer → Type 0
ShowsPackets i j destination notes sent number connection transfers =
    (k : ℕ) (note : Note) (p : UserPacket) (tx : TxHead)
    → numbered notes k ≡ Some note → numbered sent k ≡ Some (packet.User p) → p.tx ≡ Some tx
    → note.sender ≡ i → note.receiver ≡ j → p.message.destination ≡ destination
    → (t : Transfer) × In t transfers × IsTransfer note p tx t
    × (note.connection ≡ number → t.connection ≡ connection)

-- A packet that was sent, with its note, is so.
pub record Went (notes : List Note) (sent : List Packet)
    (Is : Note → UserPacket → Type 0) : Type 0 where
  pub place : ℕ
  pub note : Note
  pub user : UserPacket
  pub noted : numbered notes place ≡ Some note
  pub there : numbered sent place ≡ Some (packet.User user)
  pub is : Is note user

-- a packet of the channel is this transfer
pub record CarriesTransfer (i j : ℕ) (destination : QueueName) (t : Transfer) (note : Note)
    (user : UserPacket) : Type 0 where
  pub head : TxHead
  pub stream : user.tx ≡ Some head
  pub sender : note.sender ≡ i
  pub receiver : note.receiver ≡ j
  pub to : user.message.destination ≡ destination
  pub is : IsTransfer note user head t

-- Each transfer is a packet that was sent.
abbrev pub AreTransfersSent : (i j : ℕ) → QueueName → List Note → List Packet → List Transfer
    → Type 0
AreTransfersSent i j destination notes sent transfers =
    (t : Transfer) → In t transfers → Went notes sent (CarriesTransfer i j destination t)

-- What an order acknowledgement tells: a position that was decided of a channel. Where it is this
-- channel, it is an acknowledgement of the world.
pub record IsReceipt (c : Channel) (written : List Written) (note : Note) (p : UserPacket)
    (number connection : ℕ) (acks : List OrderAck) : Type 0 where
  pub position : Position
  pub spelled : p.message.body
      ≡ ack_body (record { sequence = position.sequence; number = position.number })
  pub of : Channel
  pub source : of.source ≡ p.to
  pub decided : In position (decisions of written)
  pub shown : of ≡ c → (a : OrderAck) × In a acks × (a.position ≡ position)
      × (note.connection ≡ number → a.connection ≡ connection)

-- Each order acknowledgement that ever went back is one, and those of the connection of a number
-- are acknowledgements of the present one.
abbrev pub ShowsReceipts : (i j : ℕ) → Channel → List Written → List Note → List Packet
    → (number connection : ℕ) → List OrderAck → Type 0
ShowsReceipts i j c written notes sent number connection acks =
    (k : ℕ) (note : Note) (p : UserPacket) → numbered notes k ≡ Some note
    → numbered sent k ≡ Some (packet.User p)
    → p.tx ≡ None → IsTrue (is_order_ack p.message) → note.sender ≡ j → note.receiver ≡ i
    → IsReceipt c written note p number connection acks

-- a packet that went back spells what this one acknowledges
pub record CarriesAck (i j : ℕ) (a : OrderAck) (note : Note) (user : UserPacket) : Type 0 where
  pub plain : user.tx ≡ None
  pub acks : IsTrue (is_order_ack user.message)
  pub sender : note.sender ≡ j
  pub receiver : note.receiver ≡ i
  pub spelled : user.message.body
      ≡ ack_body (record { sequence = a.position.sequence; number = a.position.number })

-- Each order acknowledgement of the world is a packet that was sent.
abbrev pub AreAcksSent : (i j : ℕ) → List Note → List Packet → List OrderAck → Type 0
AreAcksSent i j notes sent acks = (a : OrderAck) → In a acks → Went notes sent (CarriesAck i j a)

-- the fate that the class of a final acknowledgement tells
abbrev pub fate_of : Class → MessageFate
fate_of class = if class.0 == RECEIVED.0 then Was_put Received
    else if class.0 == QUEUE_PURGED.0 then Was_put Queue_purged
    else if class.0 == RECEIVE_TIMEOUT.0 then Was_put Receive_timeout
    else Was_refused (reason_of class)

-- a message of a class by which a source hears of the end of another one
abbrev pub is_final_ack : Message → Bool
is_final_ack m = not (is_express m.delivery) && is_final_class m.class

-- Each such message that ever went back and names one of the channel is a final
-- acknowledgement of the world, of the fate that its class tells. Those of the connection of a
-- number are of the present one.
abbrev pub ShowsFinals : (i j : ℕ) → List Commitment → List Note → List Packet
    → (number connection : ℕ) → List FinalAck → Type 0
ShowsFinals i j committed notes sent number connection acks =
    (k : ℕ) (note : Note) (p : UserPacket) (x : Commitment)
    → numbered notes k ≡ Some note → numbered sent k ≡ Some (packet.User p) → p.tx ≡ None
    → IsTrue (is_final_ack p.message)
    → note.sender ≡ j → note.receiver ≡ i → In x committed → x.message.id ≡ p.message.correlation
    → (a : FinalAck) × In a acks × (a.position ≡ x.position) × (a.fate ≡ fate_of p.message.class)
    × (note.connection ≡ number → a.connection ≡ connection)

-- a packet that went back tells of a message of the channel what this one tells
pub record CarriesFinal (i j : ℕ) (committed : List Commitment) (a : FinalAck) (note : Note)
    (user : UserPacket) : Type 0 where
  pub plain : user.tx ≡ None
  pub final : IsTrue (is_final_ack user.message)
  pub ends : (note.sender ≡ j) × (note.receiver ≡ i)
  pub commitment : Commitment
  pub there : In commitment committed
  pub names : commitment.message.id ≡ user.message.correlation
  pub position : a.position ≡ commitment.position
  pub fate : a.fate ≡ fate_of user.message.class

-- Each final acknowledgement of the world is a packet that was sent.
abbrev pub AreFinalsSent : (i j : ℕ) → List Commitment → List Note → List Packet → List FinalAck
    → Type 0
AreFinalsSent i j committed notes sent acks =
    (a : FinalAck) → In a acks → Went notes sent (CarriesFinal i j committed a)

-- two managers are the ends of a connection
abbrev pub joins : ℕ → ℕ → Connection → Bool
joins i j d = is_end i d && is_end j d

-- The course shows this world of the channel from one manager to another.
pub record Shows (c : Course) (i j : ℕ) (destination : QueueName) (w : StreamWorld) : Type 0 where
  pub channel : w.channel ≡ channel_of c.network i destination
  pub at_source : ShowsSource destination (manager_at c.network i).state.outs
      (written_of i c.written) w.committed w.expired w.offered w.acknowledged
  pub at_destination : ShowsDestination (channel_of c.network i destination)
      (manager_at c.network j).state.ins (written_of j c.written) w.decided
  pub fates : ShowsFates (lines_written (written_of j c.written)) w.decided w.fates
  -- the packets of the connection that stands, if one does, are of the present one
  pub number : ℕ
  pub standing : (d : Connection) → In d c.network.connections → IsTrue (joins i j d)
      → d.number ≡ number
  pub between : ShowsPackets i j destination c.network.notes c.sent number w.connection w.transfers
  pub transfers_sent : AreTransfersSent i j destination c.network.notes c.sent w.transfers
  pub back : ShowsReceipts i j (channel_of c.network i destination)
      (written_of j c.written) c.network.notes c.sent number w.connection w.order_acks
  pub acks_sent : AreAcksSent i j c.network.notes c.sent w.order_acks
  pub finals : ShowsFinals i j w.committed c.network.notes c.sent number w.connection w.final_acks
  pub finals_sent : AreFinalsSent i j w.committed c.network.notes c.sent w.final_acks
  pub connected : w.connected ≡ list_any (joins i j) c.network.connections

-- a run of the stream world reaches a world that the course shows
pub record IsShown (c : Course) (i j : ℕ) (destination : QueueName) : Type 0 where
  pub steps : List StreamStep
  pub run : IsRun (channel_of c.network i destination) steps
  pub shown : Shows c i j destination (after (channel_of c.network i destination) steps)

-- each channel is shown
abbrev pub AreShown : Course → Type 0
AreShown c = (i j : ℕ) (destination : QueueName) → Leads c.network i j destination
    → IsShown c i j destination

-- each channel is shown by a world that is exactly once
abbrev pub AreExactlyOnce : Course → Type 0
AreExactlyOnce c = (i j : ℕ) (destination : QueueName) → Leads c.network i j destination
    → (w : StreamWorld) × Shows c i j destination w × ExactlyOnce w
