-- What holds at each point of each run, part by part: of the stream world that a course shows, and
-- of the course itself.
use Rattle.std.specs.Prelude.{◌<◌, ◌≡◌, ◌≤◌, ◌↔◌, IsFalse, IsTrue, List, None, Some, length, ℕ}
use Rattle.mqb_base.specs.Sequences.{earlier}
use Rattle.mqb_base.specs.declared.class.TheConstants.Class.{NORMAL}
use Rattle.mqb_base.specs.declared.heads.TxHead.{TxHead}
use Rattle.mqb_base.specs.declared.ids.Identity.{Identity}
use Rattle.mqb_base.specs.declared.ids.SequenceId.{SequenceId}
use Rattle.mqb_base.specs.declared.message.Delivery.TheVariants.{Transactional}
use Rattle.mqb_base.specs.declared.message.Message.{Message}
use Rattle.mqb_base.specs.declared.queue_names.QueueName.{QueueName}
use Rattle.mqb_exactly_once.specs.ExactlyOnce.{Differ, ExactlyOnce, IsNumbered, Rises}
use Rattle.mqb_exactly_once.specs.Runs.{IsRun, after}
use Rattle.mqb_exactly_once.specs.Steps.{EarlierAcknowledged, StreamStep}
use Rattle.mqb_exactly_once.specs.Truths.{IsAcknowledgement, IsFate, IsTold, IsTruthful, MarksStand}
use Rattle.mqb_exactly_once.specs.Words.{In, due, is_decided, kept, last, newest}
use Rattle.mqb_exactly_once.specs.World.{Commitment, Decision, Expiry, FinalAck, KnownFate}
use Rattle.mqb_exactly_once.specs.World.{OrderAck, Position, StreamWorld, Transfer}
use Rattle.mqb_model.specs.declared.limits.TheConstants.{FIRST_EXPRESS}
use Rattle.mqb_model.specs.state.Places.{is_express}
use Rattle.mqb_network.specs.Courses.{Course}
use Rattle.mqb_network.specs.Network.{Note, manager_at}
use Rattle.mqb_orders.specs.Rows.{Row}
use Rattle.mqb_orders.specs.declared.kept.Kept.{Kept}
use Rattle.mqb_packet.specs.declared.packet.Packet.TheVariants as packet
use Rattle.mqb_packet.specs.declared.packet.UserPacket.{UserPacket}
use Rattle.mqb_plain.specs.Plain.{PlainLists}
use Rattle.mqb_plain.specs.declared.outgoing.Outgoing.{Outgoing}
use Rattle.mqb_queue.specs.Places.{numbered}
use Rattle.mqb_history.specs.Acked.{AreAcknowledgedTruly, AreAcknowledgingTruly}
use Rattle.mqb_history.specs.Acked.{AreWaitingUntilDecided}
use Rattle.mqb_history.specs.Begun.{AreBegunInOrder, AreDecidedAcross}
use Rattle.mqb_history.specs.Carried.{AreCarriedTruly, AreDecidedTruly}
use Rattle.mqb_history.specs.Committed.{AreCommittedInOrder, commitments}
use Rattle.mqb_history.specs.Copies.{AreCopiesRight, sent_in}
use Rattle.mqb_history.specs.Decided.{IsDecidedInOrder, written_of}
use Rattle.mqb_history.specs.Expired.{AreExpiredDuly, AreOffersKept}
use Rattle.mqb_history.specs.Finals.{AreFatesTold}
use Rattle.mqb_history.specs.Led.{AreDecidedByOne, AreDecidedWhereLed}
use Rattle.mqb_history.specs.Offered.{AreUndecided}
use Rattle.mqb_history.specs.Numbers.{AreCorrelationsNumbered, AreLinesNumbered}
use Rattle.mqb_history.specs.Numbers.{AreMessagesNumbered, AreNoticesApart}
use Rattle.mqb_history.specs.Orderly.{IsOrderly}
use Rattle.mqb_history.specs.Put.{ArePutTruly}
use Rattle.mqb_history.specs.Received.{IsReceivedTruly}
use Rattle.mqb_history.specs.Sent.{AreSentRightly}
use Rattle.mqb_history.specs.Sessions.{AreSessionsCounted}
use Rattle.mqb_history.specs.Shown.{Leads, Shows, channel_of}
use Rattle.mqb_history.specs.Skipped.{AreUnskipped}
use Rattle.mqb_history.specs.Stored.{AreReleasedTruly, IsStorageKept}
use Rattle.mqb_history.specs.Told.{AreCommitmentsTold}
use Rattle.mqb_history.specs.Truths.{local_in, noticed, told_by}
use Rattle.mqb_history.specs.Truths as notices
use Rattle.mqb_history.specs.Waiting.{AreWaiting}

-- Of a stream world.
pub record StreamInvariant (w : StreamWorld) : Type 0 where
  -- the messages of each sequence are numbered 1, 2, and so on, one sequence after another
  pub numbered : IsNumbered w.committed
  pub committed_in_order : Rises (λ c. c.position) w.committed
  -- what is acknowledged was decided, what was decided was offered, and each mark
  -- is 0 or a kept number
  pub marks_stand : (s : SequenceId) → MarksStand w s
  -- what expired was committed and due, and expired once
  pub expired_due : (e : Expiry) → In e w.expired → (c : Commitment) × In c w.committed
      × (c.position ≡ e.position) × IsTrue (due c.message e.moment)
  pub expired_once : Differ w.expired
  -- each packet carries a kept message that was offered, with the number that stands before it
  pub transfers_are_truthful : (t : Transfer) → In t w.transfers → IsTruthful w t
  -- what was decided is kept, in order, and is all that is kept up to the last decided number
  pub decided_in_order : Rises (λ d. d.position) w.decided
  pub decided_up_to_last : (p : Position) → IsTrue (is_decided w.decided p)
      ↔ (IsTrue (kept w p) × (p.number ≤ last w.decided p.sequence))
  -- what acknowledges was decided, or is a fate that is known
  pub order_acks_are_true : (a : OrderAck) → In a w.order_acks → IsAcknowledgement w a
  pub final_acks_are_true : (a : FinalAck) → In a w.final_acks → IsTold w a
  -- each fate follows from what was decided
  pub fates_are_true : (f : KnownFate) → In f w.fates → IsFate w f
  -- nothing is decided of a later sequence than that of the row
  pub none_later : (p : Position) (d : Decision) → newest w.decided ≡ Some p → In d w.decided
      → IsFalse (earlier p.sequence d.position.sequence)
  -- nothing of a sequence is offered before the earlier ones are acknowledged
  pub begun_in_order : (s : SequenceId) → 0 < w.offered s → EarlierAcknowledged w s

-- Of one channel: a run of the stream world reaches a world that the course shows, the parts of the
-- invariant hold of it, and it is exactly once.
pub record OneStreamWorld (c : Course) (i j : ℕ) (destination : QueueName) : Type 0 where
  pub steps : List StreamStep
  pub run : IsRun (channel_of c.network i destination) steps
  pub world : StreamWorld
  pub reached : after (channel_of c.network i destination) steps ≡ world
  pub shown : Shows c i j destination world
  pub invariant : StreamInvariant world
  pub exactly_once : ExactlyOnce world

-- Each channel has one.
abbrev pub HaveOneStreamWorld : Course → Type 0
HaveOneStreamWorld c = (i j : ℕ) (destination : QueueName) → Leads c.network i j destination
    → OneStreamWorld c i j destination

-- So each channel is shown by a stream world of which the invariant holds.
abbrev pub HaveStreamInvariants : Course → Type 0
HaveStreamInvariants c = (i j : ℕ) (destination : QueueName) → Leads c.network i j destination
    → (w : StreamWorld) × Shows c i j destination w × StreamInvariant w

-- Of a course.

-- a committed message bears its manager's identifier, and a number below the next one that it gives
abbrev pub AreOwnBelow : Course → Type 0
AreOwnBelow c = (i : ℕ) (m : Commitment) → In m (commitments (written_of i c.written))
    → (m.message.id.qm ≡ (manager_at c.network i).state.identity.guid)
    × (m.message.id.number < (manager_at c.network i).state.next_number)

-- so does a message that waits outside of the streams, unless it is express
abbrev pub AreListedBelow : Course → Type 0
AreListedBelow c = (i : ℕ) (p : PlainLists) (o : Outgoing)
    → In p (manager_at c.network i).state.plain → In o p.recoverable
    → (o.message.id.qm ≡ (manager_at c.network i).state.identity.guid)
    × (o.message.id.number < (manager_at c.network i).state.next_number)

-- and one that was ever sent bears its sender's identifier, and a number below the next one of the
-- manager that has that
abbrev pub AreSentBelow : Course → Type 0
AreSentBelow c = (k : ℕ) (note : Note) (p : UserPacket) → numbered c.network.notes k ≡ Some note
    → numbered c.sent k ≡ Some (packet.User p) → p.tx ≡ None
    → IsFalse (is_express p.message.delivery)
    → (p.message.id.qm ≡ (manager_at c.network note.sender).state.identity.guid)
    × ((i : ℕ) → i < length c.network.managers → (manager_at c.network i).state.identity.guid
    ≡ p.message.id.qm → p.message.id.number < (manager_at c.network i).state.next_number)

-- no message that waits outside of the streams has the identifier of one
abbrev pub AreListedApart : Course → Type 0
AreListedApart c = (i : ℕ) (m : Commitment) (p : PlainLists) (o : Outgoing)
    → In m (commitments (written_of i c.written)) → In p (manager_at c.network i).state.plain
    → In o p.recoverable → o.message.id ≡ m.message.id → ⊥

-- and none has that was ever sent, unless it is express
abbrev pub AreSentApart : Course → Type 0
AreSentApart c = (i k : ℕ) (m : Commitment) (note : Note) (p : UserPacket)
    → In m (commitments (written_of i c.written)) → numbered c.network.notes k ≡ Some note
    → numbered c.sent k ≡ Some (packet.User p) → p.tx ≡ None
    → IsFalse (is_express p.message.delivery) → p.message.id ≡ m.message.id → ⊥

-- an express message bears a number from the first express one on, whoever has it, and
-- whatever packet it went in
abbrev pub AreExpressAbove : Course → Type 0
AreExpressAbove c =
    (m : Message) → In m (noticed c) → IsTrue (is_express m.delivery) → FIRST_EXPRESS ≤ m.id.number

-- and no other message does
abbrev pub AreDurableBelow : Course → Type 0
AreDurableBelow c =
    (m : Message) → In m (noticed c) → IsFalse (is_express m.delivery) → m.id.number < FIRST_EXPRESS

-- so it is with those that a manager will make
abbrev pub AreNextApart : Course → Type 0
AreNextApart c = (i : ℕ) → i < length c.network.managers
    → ((manager_at c.network i).state.next_number ≤ FIRST_EXPRESS)
    × (FIRST_EXPRESS ≤ (manager_at c.network i).state.next_express)

-- no message that a manager committed was put where it was sent
abbrev pub AreLocalsApart : Course → Type 0
AreLocalsApart c = (i : ℕ) (m : Commitment) → In m (commitments (written_of i c.written))
    → In m.message.id (told_by local_in c) → ⊥

-- what a row keeps was committed to it
abbrev pub AreKeptCommitted : Course → Type 0
AreKeptCommitted c =
    (i : ℕ) (row : Row) (k : Kept) → In row (manager_at c.network i).state.outs → In k row.kept
    → In (record {
      position = record { sequence = row.sequence; number = k.number };
      message = k.message;
    }) (commitments (written_of i c.written))

-- a committed message is transactional, and ordinary
abbrev pub AreTransactional : Course → Type 0
AreTransactional c = (i : ℕ) (m : Commitment) → In m (commitments (written_of i c.written))
    → (m.message.delivery ≡ Transactional) × (m.message.class ≡ NORMAL)

-- no message that waits outside of the streams was sent in a transaction, or put where it was sent
abbrev pub AreListedUnsent : Course → Type 0
AreListedUnsent c =
    (i : ℕ) (p : PlainLists) (o : Outgoing) → In p (manager_at c.network i).state.plain
    → In o p.recoverable → In o.message.id (told_by sent_in c) → ⊥

-- nor was one that went in a packet outside of the streams, unless it is express
abbrev pub ArePacketsUnsent : Course → Type 0
ArePacketsUnsent c = (k : ℕ) (note : Note) (p : UserPacket) → numbered c.network.notes k ≡ Some note
    → numbered c.sent k ≡ Some (packet.User p) → p.tx ≡ None
    → IsFalse (is_express p.message.delivery) → In p.message.id (told_by sent_in c) → ⊥

-- and none that went in a packet of a stream was put where it was sent
abbrev pub AreStreamsAway : Course → Type 0
AreStreamsAway c =
    (k : ℕ) (note : Note) (p : UserPacket) (tx : TxHead) → numbered c.network.notes k ≡ Some note
    → numbered c.sent k ≡ Some (packet.User p) → p.tx ≡ Some tx
    → In p.message.id (told_by local_in c) → ⊥

pub record MachineInvariant (known : List Identity) (c : Course) : Type 0 where
  -- sessions are connections, there is a note for each packet, and managers stay who they are
  pub orderly : IsOrderly known c
  -- each manager numbers the messages of each sequence from 1 on, no two have one
  -- identifier, and lines tell them
  pub committed_in_order : AreCommittedInOrder c
  pub commitments_are_told : AreCommitmentsTold c
  -- identifiers are their manager's own, and those of its committed messages are no other
  -- message's that is not express
  pub own_below : AreOwnBelow c
  pub kept_committed : AreKeptCommitted c
  pub locals_apart : AreLocalsApart c
  pub listed_below : AreListedBelow c
  pub sent_below : AreSentBelow c
  pub listed_apart : AreListedApart c
  pub sent_apart : AreSentApart c
  -- and none of a transaction, or that was put where it was sent, is one that went
  -- or waits in no stream
  pub listed_unsent : AreListedUnsent c
  pub packets_unsent : ArePacketsUnsent c
  pub streams_away : AreStreamsAway c
  -- express messages have numbers of their own
  pub express_above : AreExpressAbove c
  pub durable_below : AreDurableBelow c
  pub next_apart : AreNextApart c
  -- whatever a line names, and whatever message there is, has a number that a manager gave; and so
  -- has what a notice tells of
  pub lines_numbered : AreLinesNumbered c
  pub messages_numbered : AreMessagesNumbered c
  pub correlations_numbered : AreCorrelationsNumbered c
  -- no notice has that of a message which joined a stream
  pub notices_apart : AreNoticesApart c
  -- each ordinary message is one that was sent under its identifier, and transactional
  -- where it joined a stream
  pub sent_rightly : AreSentRightly c
  -- what is committed is transactional and ordinary
  pub transactional : AreTransactional c
  -- each of them waits in its row until it is acknowledged, that is decided, or it expired
  pub waiting : AreWaiting c
  pub waiting_until_decided : AreWaitingUntilDecided c
  -- what expired was committed and due, was not offered, and is decided nowhere
  pub expired_duly : AreExpiredDuly c
  pub offers_are_kept : AreOffersKept c
  pub undecided : AreUndecided c
  -- each packet of a stream carries what its sender committed and offered
  pub carried_truly : AreCarriedTruly c
  -- what was decided was committed, is decided in order, by one manager, to which its row leads,
  -- and nothing before it is skipped
  pub decided_truly : AreDecidedTruly c
  pub decided_in_order : IsDecidedInOrder c
  pub decided_where_led : AreDecidedWhereLed c
  pub decided_by_one : AreDecidedByOne c
  pub unskipped : AreUnskipped c
  -- what acknowledges, and what is acknowledged, was decided
  pub acknowledging_truly : AreAcknowledgingTruly c
  pub acknowledged_truly : AreAcknowledgedTruly c
  -- of two sequences to one destination the earlier one is done with first, and is decided first
  pub begun_in_order : AreBegunInOrder c
  pub decided_across : AreDecidedAcross c
  -- a queue gets the committed message, and each message that is sent in a transaction, or put
  -- where it is sent, is in one queue at most, once, and leaves it once
  pub put_truly : ArePutTruly c
  pub copies_right : AreCopiesRight c
  -- notices, and final acknowledgements, tell the truth
  pub truthful : notices.IsTruthful c
  pub received_truly : IsReceivedTruly c
  pub fates_told : AreFatesTold c
  -- each end of a connection counts what it sends and gets, and what is stored
  pub sessions_counted : AreSessionsCounted c
  -- what is released was stored where it arrived
  pub released_truly : AreReleasedTruly c
  pub storage_is_kept : IsStorageKept c
  -- each channel is a run of the stream world
  pub one_stream_world : HaveOneStreamWorld c
