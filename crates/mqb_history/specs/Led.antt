-- Where messages are decided.
use Rattle.std.specs.Prelude.{◌≡◌, ℕ}
use Rattle.mqb_exactly_once.specs.Words.{In}
use Rattle.mqb_exactly_once.specs.World.{Channel, Commitment, Position}
use Rattle.mqb_network.specs.Courses.{Course}
use Rattle.mqb_network.specs.Network.{manager_at}
use Rattle.mqb_orders.specs.Rows.{Row}
use Rattle.mqb_history.specs.Acked.{LeadsTo}
use Rattle.mqb_history.specs.Committed.{commitments}
use Rattle.mqb_history.specs.Decided.{decisions, written_of}

-- the row of a committed message leads to a manager
pub record IsLedTo (c : Course) (i : ℕ) (m : Commitment) (j : ℕ) : Type 0 where
  pub row : Row
  pub there : In row (manager_at c.network i).state.outs
  pub sequence : row.sequence ≡ m.position.sequence
  pub destination : row.destination ≡ m.message.destination
  pub leads : LeadsTo c i row j

-- What a manager committed is decided only where its row leads.
abbrev pub AreDecidedWhereLed : Course → Type 0
AreDecidedWhereLed c = (i j : ℕ) (m : Commitment) → In m (commitments (written_of i c.written))
    → In m.position (decisions (record {
      source = (manager_at c.network i).state.identity.guid;
      destination = m.message.destination;
    }) (written_of j c.written))
    → IsLedTo c i m j

-- No two managers decide anything of one channel.
abbrev pub AreDecidedByOne : Course → Type 0
AreDecidedByOne c = (j k : ℕ) (channel : Channel) (p q : Position)
    → In p (decisions channel (written_of j c.written))
    → In q (decisions channel (written_of k c.written)) → j ≡ k
