-- What becomes of a committed message at its source.
use Rattle.std.specs.Prelude.{◌≡◌, ◌≤◌, ◌⊎◌, ℕ}
use Rattle.mqb_exactly_once.specs.Words.{In}
use Rattle.mqb_exactly_once.specs.World.{Commitment}
use Rattle.mqb_model.specs.state.State.{State}
use Rattle.mqb_network.specs.Courses.{Course}
use Rattle.mqb_network.specs.Laws.{lines_written}
use Rattle.mqb_network.specs.Network.{manager_at}
use Rattle.mqb_orders.specs.Rows.{Row}
use Rattle.mqb_history.specs.Committed.{commitments}
use Rattle.mqb_history.specs.Decided.{written_of}
use Rattle.mqb_history.specs.Expired.{expiries_told}

-- its row stands and leads to its destination, and is acknowledged up to it or keeps it
pub record IsInRow (s : State) (c : Commitment) : Type 0 where
  pub row : Row
  pub there : In row s.outs
  pub sequence : row.sequence ≡ c.position.sequence
  pub destination : row.destination ≡ c.message.destination
  pub waits : (c.position.number ≤ row.acked)
      ⊎ In (record { number = c.position.number; message = c.message }) row.kept

-- Each message that a manager committed was acknowledged, or waits in its row, or expired.
abbrev pub AreWaiting : Course → Type 0
AreWaiting c = (i : ℕ) (m : Commitment) → In m (commitments (written_of i c.written))
    → IsInRow (manager_at c.network i).state m
    ⊎ In m.position (expiries_told (lines_written (written_of i c.written)))
