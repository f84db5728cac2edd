use Rattle.std.specs.Prelude.{◌≡◌, ℕ, ◌<◌, ◌≤◌, ◌⊎◌, ◌↔◌, IsTrue, IsFalse, List, [], ◌∷◌, ◌++◌}
use Rattle.mqb_base.specs.declared.ids.SequenceId.{SequenceId}
use Rattle.mqb_base.specs.declared.message.Message.{Message}
use Rattle.mqb_orders.specs.declared.judging.Verdict.TheVariants.{Duplicate, Stale}
use Rattle.mqb_exactly_once.specs.Outcomes.{Put}
use Rattle.mqb_exactly_once.specs.World.{Channel, Position, Commitment, Expiry, Decision, KnownFate}
use Rattle.mqb_exactly_once.specs.World.{Transfer, OrderAck, FinalAck}
use Rattle.mqb_exactly_once.specs.Words.{In, position_of, is_committed, is_decided, kept, count}
use Rattle.mqb_exactly_once.specs.Words.{before, previous, last, due, carried}
use Rattle.mqb_exactly_once.specs.Steps.{StreamStep, verdict}
use Rattle.mqb_exactly_once.specs.Runs.{after, IsRun, AtEachPoint}
use Rattle.mqb_exactly_once.specs.ExactlyOnce.{ExactlyOnce}
use Rattle.mqb_exactly_once.specs.Growth.{Grows}
use Rattle.mqb_exactly_once.specs.Truths.{MarksStand, IsTruthful, IsAcknowledgement, IsFate}
use Rattle.mqb_exactly_once.specs.Truths.{IsTold, IsGreatestKept}

-- A channel is exactly once.
abbrev pub AlwaysExactlyOnce : Type 0
AlwaysExactlyOnce = AtEachPoint ExactlyOnce

-- The numbers of a sequence are those from 1 to its count.
abbrev pub CommittedAreCounted : Type 0
CommittedAreCounted = AtEachPoint (λ w.
    (p : Position) → IsTrue (is_committed w.committed p)
    ↔ ((0 < p.number) × (p.number ≤ count w.committed p.sequence)))

-- Each position is of one message.
abbrev pub CommittedOnce : Type 0
CommittedOnce = AtEachPoint (λ w. (b c : Commitment) → In b w.committed → In c w.committed
    → b.position ≡ c.position → b ≡ c)

-- Each is decided once.
abbrev pub DecidedOnce : Type 0
DecidedOnce = AtEachPoint
    (λ w. (d e : Decision) → In d w.decided → In e w.decided → d.position ≡ e.position → d ≡ e)

-- The marks of each sequence are 0 or kept. What is acknowledged was decided, and what was
-- decided was offered.
abbrev pub MarksAlwaysStand : Type 0
MarksAlwaysStand = AtEachPoint (λ w. (s : SequenceId) → MarksStand w s)

-- What was decided of a sequence is what is kept of it up to the last decided number.
abbrev pub DecidedUpToLast : Type 0
DecidedUpToLast = AtEachPoint (λ w.
    (p : Position) → IsTrue (is_decided w.decided p)
    ↔ (IsTrue (kept w p) × (p.number ≤ last w.decided p.sequence)))

-- Each packet that was ever sent is truthful.
abbrev pub TransfersAreTruthful : Type 0
TransfersAreTruthful = AtEachPoint (λ w. (t : Transfer) → In t w.transfers → IsTruthful w t)

-- A packet that is dropped as a duplicate or as stale carries a message that was decided.
abbrev pub DroppedWasDecided : Type 0
DroppedWasDecided = AtEachPoint (λ w.
    (t : Transfer) → In t w.transfers → (verdict w t ≡ Duplicate) ⊎ (verdict w t ≡ Stale)
    → IsTrue (is_decided w.decided (position_of t.head)))

-- Each order acknowledgement that was ever sent speaks of what was decided.
abbrev pub OrderAcksAreTrue : Type 0
OrderAcksAreTrue = AtEachPoint (λ w. (a : OrderAck) → In a w.order_acks → IsAcknowledgement w a)

-- Each fate is that of a message that was decided so.
abbrev pub FatesAreTrue : Type 0
FatesAreTrue = AtEachPoint (λ w. (f : KnownFate) → In f w.fates → IsFate w f)

-- Each final acknowledgement that was ever sent tells a fate.
abbrev pub FinalAcksAreTrue : Type 0
FinalAcksAreTrue = AtEachPoint (λ w. (a : FinalAck) → In a w.final_acks → IsTold w a)

-- A step takes nothing back.
abbrev pub StepsGrow : Type 0
StepsGrow = (channel : Channel) (x : StreamStep) (xs : List StreamStep) → IsRun channel (x ∷ xs)
    → Grows (after channel xs) (after channel (x ∷ xs))

-- Nor do more steps.
abbrev pub RunsGrow : Type 0
RunsGrow = (channel : Channel) (more xs : List StreamStep) → IsRun channel (more ++ xs)
    → Grows (after channel xs) (after channel (more ++ xs))

-- What stands before an offered number never changes.
abbrev pub BeforeStays : Type 0
BeforeStays = (channel : Channel) (more xs : List StreamStep) → IsRun channel (more ++ xs)
    → (s : SequenceId) (n : ℕ) → n ≤ (after channel xs).offered s
    → previous (after channel (more ++ xs)) s n ≡ previous (after channel xs) s n

-- What stands before a number is the greatest kept one below it, and nothing else is.
abbrev pub BeforeIsGreatest : Type 0
BeforeIsGreatest = (committed : List Commitment) (expired : List Expiry) (s : SequenceId) (n m : ℕ)
    → IsGreatestKept committed expired s n m ↔ (m ≡ before committed expired s n)

-- a message that arrived as it was sent at a moment, and was put
abbrev pub put : Position → Message → ℕ → Decision
put p m moment = record { position = p; message = carried m moment; outcome = Put }

-- A message that is sent before it is due can arrive and be put.
abbrev pub OneArrives : Type 0
OneArrives =
    (channel : Channel) (s : SequenceId) (m : Message) (moment : ℕ) → IsFalse (due m moment)
    → (xs : List StreamStep) × IsRun channel xs
    × ((after channel xs).decided ≡ put (record { sequence = s; number = 1 }) m moment ∷ [])

-- Two messages of one sequence can arrive, and then, once they are acknowledged, one
-- of the next sequence.
abbrev pub SequencesRollOver : Type 0
SequencesRollOver = (channel : Channel) (one two three : Message) (moment : ℕ)
    → IsFalse (due one moment) → IsFalse (due two moment) → IsFalse (due three moment)
    → (xs : List StreamStep) × IsRun channel xs
    × ((after channel xs).decided
    ≡ put (record { sequence = record { ordinal = 2; stamp = 1000 }; number = 1 }) three moment
    ∷ put (record { sequence = record { ordinal = 1; stamp = 1000 }; number = 2 }) two moment
    ∷ put (record { sequence = record { ordinal = 1; stamp = 1000 }; number = 1 }) one moment
    ∷ [])
