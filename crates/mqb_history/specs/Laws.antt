-- Laws of histories and of runs.
use Rattle.std.specs.Prelude.{Bool, List, ℕ}
use Rattle.mqb_base.specs.declared.ids.Identity.{Identity}
use Rattle.mqb_network.specs.Doubts.{settled}
use Rattle.mqb_network.specs.Laws.{AreApart}
use Rattle.mqb_network.specs.Runs.{IsRun, Move, after_run}
use Rattle.mqb_history.specs.Acked.{AreAcknowledgedTruly, AreAcknowledgingTruly}
use Rattle.mqb_history.specs.Acked.{AreWaitingUntilDecided}
use Rattle.mqb_history.specs.Histories.{HasHistory, IsHistory, course_of}
use Rattle.mqb_history.specs.Changes.{Change}
use Rattle.mqb_history.specs.Carried.{AreCarriedTruly, AreDecidedTruly}
use Rattle.mqb_history.specs.Committed.{AreCommittedInOrder}
use Rattle.mqb_history.specs.Decided.{IsDecidedInOrder, decisions}
use Rattle.mqb_history.specs.Told.{AreCommitmentsTold, decisions_told}
use Rattle.mqb_history.specs.Orderly.{IsOrderly}
use Rattle.mqb_history.specs.Skipped.{AreUnskipped}
use Rattle.mqb_history.specs.Waiting.{AreWaiting}
use Rattle.mqb_history.specs.Expired.{AreDecidedKept, AreExpiredDuly, AreOffersKept}
use Rattle.mqb_history.specs.Expired.{AreSentKept, MayExpire}
use Rattle.mqb_history.specs.Offered.{AreUndecided}
use Rattle.mqb_history.specs.Led.{AreDecidedByOne, AreDecidedWhereLed}
use Rattle.mqb_history.specs.Begun.{AreBegunInOrder, AreDecidedAcross}
use Rattle.mqb_history.specs.Invariants.{HaveOneStreamWorld, HaveStreamInvariants, MachineInvariant}
use Rattle.mqb_history.specs.Shown.{AreExactlyOnce, AreShown}
use Rattle.mqb_base.specs.declared.ids.MessageId.{MessageId}
use Rattle.mqb_base.specs.declared.ledger.Line.TheVariants as line
use Rattle.mqb_base.specs.declared.ledger.Stream.{Stream}
use Rattle.mqb_exactly_once.specs.Words.{In}
use Rattle.mqb_model.specs.records.Record.{Record}
use Rattle.mqb_network.specs.Laws.{Always}
use Rattle.mqb_exactly_once.specs.World.{Channel}
use Rattle.mqb_network.specs.Courses.{Written}
use Rattle.mqb_network.specs.Laws.{lines_written}
use Rattle.std.specs.Prelude.{◌≡◌}
use Rattle.std.specs.Prelude.{◌<◌, IsTrue, length}
use Rattle.mqb_history.specs.Changes.{may_change}
use Rattle.mqb_history.specs.Doubts.{IsSettled, StaysDown}
use Rattle.mqb_network.specs.Courses.{Course}
use Rattle.std.specs.Prelude.{[], ◌++◌, ◌∷◌, Some}
use Rattle.mqb_base.specs.declared.heads.TxHead.{TxHead}
use Rattle.mqb_base.specs.declared.ledger.Line.{Line}
use Rattle.mqb_model.specs.records.Applying.{lines_of}
use Rattle.mqb_model.specs.records.Decisions.{decided_line}
use Rattle.mqb_model.specs.records.Record as entry
use Rattle.mqb_model.specs.rules.Arrivals.{refusal_of}
use Rattle.mqb_model.specs.state.State.{State}
use Rattle.mqb_packet.specs.declared.packet.UserPacket.{UserPacket}

-- Every course with a history is orderly.
abbrev pub HistoriesAreOrderly : Type 0
HistoriesAreOrderly =
    (known : List Identity) (xs : List Change) → AreApart known → IsHistory known xs
    → IsOrderly known (course_of known xs)

-- Each point of each run has a history, and so has the course with each record in doubt
-- applied or left out.
abbrev pub RunsHaveHistories : Type 0
RunsHaveHistories =
    (known : List Identity) (ms : List Move) → AreApart known → IsRun known ms → (kept : ℕ → Bool)
    → HasHistory known (after_run known ms) × HasHistory known (settled kept (after_run known ms))

-- Messages are decided in order, each once.
abbrev pub AlwaysDecidedInOrder : Type 0
AlwaysDecidedInOrder = Always IsDecidedInOrder

-- Messages are committed in order, each under an identifier of its own.
abbrev pub AlwaysCommittedInOrder : Type 0
AlwaysCommittedInOrder = Always AreCommittedInOrder

-- What a packet of a stream carries was committed by its sender.
abbrev pub AlwaysCarriedTruly : Type 0
AlwaysCarriedTruly = Always AreCarriedTruly

-- What is decided was committed by its source before.
abbrev pub AlwaysDecidedTruly : Type 0
AlwaysDecidedTruly = Always AreDecidedTruly

-- The lines of records tell what they decide.
abbrev pub LinesTellDecisions : Type 0
LinesTellDecisions = (channel : Channel) (written : List Written)
    → decisions_told channel (lines_written written) ≡ decisions channel written

-- The lines of a manager's records tell what it commits.
abbrev pub AlwaysToldCommitments : Type 0
AlwaysToldCommitments = Always AreCommitmentsTold

-- Until it is started again a manager that is down stays as it is.
abbrev pub DownStays : Type 0
DownStays = (c : Course) (x : Change) → IsTrue (may_change c x) → StaysDown c x

-- A failure leaves a doubt, and a start settles it.
abbrev pub FailuresAreSettled : Type 0
FailuresAreSettled = (c : Course) (i : ℕ) → i < length c.network.managers → IsSettled c i

-- A decision's line is the last of its record: it puts the message, or refuses it for the reason
-- that there is in the state in which it was heard.
abbrev pub DecisionsHaveReasons : Type 0
DecisionsHaveReasons =
    (s : State) (now : ℕ) (numbers : List ℕ) (p : UserPacket) (tx : TxHead) → p.tx ≡ Some tx
    → (released : List Line)
    × (lines_of s (entry.Arrived now numbers (entry.Decided p))
    ≡ released ++ decided_line p.message tx (refusal_of s p) ∷ [])

-- A message expires out of a row of the state that its record met: it was not offered, and was due.
abbrev pub ExpiriesHaveReasons : Type 0
ExpiriesHaveReasons =
    (s : State) (r : Record) (stream : Stream) (number : ℕ) (id : MessageId) (moment : ℕ)
    → In (line.Expired stream number id moment) (lines_of s r) → MayExpire s stream number id moment

-- What expires was committed by its manager, and was due.
abbrev pub AlwaysExpiredDuly : Type 0
AlwaysExpiredDuly = Always AreExpiredDuly

-- None of a sequence is skipped.
abbrev pub AlwaysUnskipped : Type 0
AlwaysUnskipped = Always AreUnskipped

-- Each committed message waits in its row until it is acknowledged, or it expired.
abbrev pub AlwaysWaiting : Type 0
AlwaysWaiting = Always AreWaiting

-- What was offered never expires later.
abbrev pub AlwaysOffersKept : Type 0
AlwaysOffersKept = Always AreOffersKept

-- What expired is decided nowhere, before or later.
abbrev pub AlwaysUndecided : Type 0
AlwaysUndecided = Always AreUndecided

-- Sequences of one destination follow one another.
abbrev pub AlwaysBegunInOrder : Type 0
AlwaysBegunInOrder = Always AreBegunInOrder

-- What a packet acknowledges was decided by its sender.
abbrev pub AlwaysAcknowledgingTruly : Type 0
AlwaysAcknowledgingTruly = Always AreAcknowledgingTruly

-- What is acknowledged was decided, or expired.
abbrev pub AlwaysAcknowledgedTruly : Type 0
AlwaysAcknowledgedTruly = Always AreAcknowledgedTruly

-- Each committed message waits in its row until it is decided, unless it expires.
abbrev pub AlwaysWaitingUntilDecided : Type 0
AlwaysWaitingUntilDecided = Always AreWaitingUntilDecided

-- Sequences of one destination are decided one after another.
abbrev pub AlwaysDecidedAcross : Type 0
AlwaysDecidedAcross = Always AreDecidedAcross

-- What is committed is decided only where its row leads.
abbrev pub AlwaysDecidedWhereLed : Type 0
AlwaysDecidedWhereLed = Always AreDecidedWhereLed

-- Each channel is decided by one manager.
abbrev pub AlwaysDecidedByOne : Type 0
AlwaysDecidedByOne = Always AreDecidedByOne

-- Each channel has one stream world, which a run of the stream world reaches, which is shown, which
-- keeps the invariant and is exactly once. The three laws behind it follow.
abbrev pub AlwaysOneStreamWorld : Type 0
AlwaysOneStreamWorld = Always HaveOneStreamWorld

-- Each run is a run of the stream world, for each channel.
abbrev pub AlwaysShown : Type 0
AlwaysShown = Always AreShown

-- Each channel is exactly once.
abbrev pub AlwaysExactlyOnce : Type 0
AlwaysExactlyOnce = Always AreExactlyOnce

-- The parts of the invariant hold of the stream world that is shown.
abbrev pub AlwaysStreamInvariant : Type 0
AlwaysStreamInvariant = Always HaveStreamInvariants

-- The parts of the invariant hold of the course.
abbrev pub AlwaysMachineInvariant : Type 0
AlwaysMachineInvariant =
    (known : List Identity) (ms : List Move) → AreApart known → IsRun known ms → (kept : ℕ → Bool)
    → MachineInvariant known (settled kept (after_run known ms))

-- What was sent or decided never expires.
abbrev pub SentNeverExpires : Type 0
SentNeverExpires = Always (λ c. AreSentKept c × AreDecidedKept c)
