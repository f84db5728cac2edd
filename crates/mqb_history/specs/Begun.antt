-- Sequences of one destination follow one another.
use Rattle.std.specs.Prelude.{◌<◌, ◌≡◌, ◌≤◌, ◌⊎◌, List, ℕ}
use Rattle.mqb_exactly_once.specs.Words.{In}
use Rattle.mqb_exactly_once.specs.World.{Commitment, Position}
use Rattle.mqb_network.specs.Courses.{Course, Written}
use Rattle.mqb_network.specs.Laws.{lines_written}
use Rattle.mqb_network.specs.Network.{manager_at}
use Rattle.mqb_orders.specs.Rows.{Row}
use Rattle.mqb_history.specs.Committed.{commitments}
use Rattle.mqb_history.specs.Decided.{decisions, written_of}
use Rattle.mqb_history.specs.Expired.{expiries_told}

-- Whatever a manager committed to the sequence of a row is acknowledged, or expired.
abbrev pub IsDoneWith : List Written → Row → Type 0
IsDoneWith written row =
    (m : Commitment) → In m (commitments written) → m.position.sequence ≡ row.sequence
    → (m.position.number ≤ row.acked) ⊎ In m.position (expiries_told (lines_written written))

-- Of two sequences to one destination nothing of the later one is offered before the
-- earlier one is done with.
abbrev pub AreBegunInOrder : Course → Type 0
AreBegunInOrder c = (i : ℕ) (a b : Row) → In a (manager_at c.network i).state.outs
    → In b (manager_at c.network i).state.outs
    → a.destination ≡ b.destination → a.sequence.ordinal < b.sequence.ordinal → 0 < b.offered
    → IsDoneWith (written_of i c.written) a

-- Of two sequences to one destination nothing of the later one is decided before whatever was
-- committed to the earlier one was decided, or expired.
abbrev pub AreDecidedAcross : Course → Type 0
AreDecidedAcross c =
    (i j : ℕ) (m : Commitment) (p : Position) → In m (commitments (written_of i c.written))
    → In p (decisions (record {
      source = (manager_at c.network i).state.identity.guid;
      destination = m.message.destination;
    }) (written_of j c.written))
    → m.position.sequence.ordinal < p.sequence.ordinal
    → In m.position (decisions (record {
      source = (manager_at c.network i).state.identity.guid;
      destination = m.message.destination;
    }) (written_of j c.written))
    ⊎ In m.position (expiries_told (lines_written (written_of i c.written)))
