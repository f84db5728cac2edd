-- The law of recovery.
use Rattle.std.specs.Prelude.{◌<◌, ◌≡◌, ◌≤◌, ◌⊎◌, All, List, Some, length, map, true, ℕ}
use Rattle.mqb_base.specs.declared.ids.Identity.{Identity}
use Rattle.mqb_base.specs.declared.ids.SequenceId.{SequenceId}
use Rattle.mqb_exactly_once.specs.Words.{In}
use Rattle.mqb_exactly_once.specs.World.{Commitment}
use Rattle.mqb_history.specs.Acked.{WasDecidedThere}
use Rattle.mqb_history.specs.Awaited.{IsHeld}
use Rattle.mqb_history.specs.Committed.{commitments}
use Rattle.mqb_history.specs.Decided.{written_of}
use Rattle.mqb_history.specs.Drafted.{AreInOrder, IsDraftedEvent}
use Rattle.mqb_history.specs.Expired.{expiries_told}
use Rattle.mqb_model.specs.declared.limits.TheConstants.{MAX_NUMBER}
use Rattle.mqb_model.specs.declared.target.Target.TheVariants.{AtPeer}
use Rattle.mqb_model.specs.state.Resolving.{peer_known, resolved}
use Rattle.mqb_model.specs.state.State.{State}
use Rattle.mqb_network.specs.Courses.{Course}
use Rattle.mqb_network.specs.Laws.{lines_written}
use Rattle.mqb_network.specs.Network.{Network, manager_at}
use Rattle.mqb_network.specs.Runs.{IsRun, IsRunFrom, Move, after_run, course_after}
use Rattle.mqb_orders.specs.Rows.{Row}
use Rattle.mqb_orders.specs.declared.kept.Kept.{Kept}
use Rattle.mqb_law_meetings.specs.Drained.{IsDrained}
use Rattle.mqb_law_meetings.specs.Meetings.{is_good, starts}
use Rattle.mqb_law_meetings.specs.Work.{met}

-- These moves start both, and no disk fails in them.
pub record Starts (c : Course) (ms : List Move) (a b : ℕ) : Type 0 where
  pub events : map (λ m. m.event) ms ≡ starts a b
  pub good : All (λ m. is_good m.choice ≡ true) ms
  pub run : IsRunFrom c ms

-- a sequence's stamp fits the four bytes in which an acknowledgement spells it
abbrev pub IsSpelled : SequenceId → Type 0
IsSpelled sequence = sequence.stamp < 4294967296

-- The stamps of all sequences of a manager do.
abbrev pub AreStamped : State → Type 0
AreStamped s = All (λ row. IsSpelled row.sequence) s.outs

-- Behind any run, between each two managers, at any moment: both are started, and meet as often as
-- there is work. Then this holds of the course and of the two.
abbrev pub BehindMeetings : (Course → ℕ → ℕ → Type 0) → Type 0
BehindMeetings P = (known : List Identity) (before ms : List Move) (a b now : ℕ) → AreInOrder known
    → All (λ m. IsDraftedEvent m.event) before → IsRun known before
    → a < length known → b < length known → (a ≡ b → ⊥) → Starts (after_run known before) ms a b
    → AreStamped (manager_at (course_after (after_run known before) ms).network a).state
    → AreStamped (manager_at (course_after (after_run known before) ms).network b).state
    → P (met (course_after (after_run known before) ms) a b now) a b

-- Nothing waits between them.
abbrev pub Recovers : Type 0
Recovers = BehindMeetings (λ c a b. IsDrained c.network a b)

-- Each message that the first committed to a name that leads to the second was decided where its
-- row leads, or it expired.
abbrev pub AreDelivered : Course → ℕ → ℕ → Type 0
AreDelivered c a b = (m : Commitment) (k : ℕ) → In m (commitments (written_of a c.written))
    → resolved (manager_at c.network a).state m.message.destination ≡ AtPeer k
    → peer_known (manager_at c.network a).state (manager_at c.network b).state.identity.guid
    ≡ Some k
    → WasDecidedThere c a m ⊎ In m.position (expiries_told (lines_written (written_of a c.written)))

-- So it is.
abbrev pub Delivers : Type 0
Delivers = BehindMeetings AreDelivered

-- What the first still keeps for the second stands in a queue there: its fate is still to come.
abbrev pub IsForgotten : Network → ℕ → ℕ → Type 0
IsForgotten n a b = (row : Row) (k : Kept) → In row (manager_at n a).state.outs
    → peer_known (manager_at n a).state (manager_at n b).state.identity.guid ≡ Some row.peer
    → In k row.kept
    → IsHeld n b k.message.id

-- So it is, where the second has a number left for a final acknowledgement: nothing
-- else is kept for ever.
abbrev pub Forgets : Type 0
Forgets = BehindMeetings (λ c a b. (manager_at c.network b).state.next_number ≤ MAX_NUMBER → IsForgotten c.network a b)
