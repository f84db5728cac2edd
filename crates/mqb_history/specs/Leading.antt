-- Where what is committed goes.
use Rattle.std.specs.Prelude.{◌<◌, ◌≡◌, Some, length, slice_get, ℕ}
use Rattle.mqb_base.specs.declared.ids.MessageId.{MessageId}
use Rattle.mqb_base.specs.declared.ledger.Line.TheVariants as line
use Rattle.mqb_base.specs.declared.ledger.Stream.{Stream}
use Rattle.mqb_base.specs.declared.queue_names.QueueName.{QueueName}
use Rattle.mqb_exactly_once.specs.Words.{In}
use Rattle.mqb_exactly_once.specs.World.{Commitment}
use Rattle.mqb_model.specs.declared.target.Target.TheVariants.{AtPeer}
use Rattle.mqb_model.specs.state.Resolving.{resolved}
use Rattle.mqb_model.specs.state.State.{State}
use Rattle.mqb_network.specs.Courses.{Course, Written}
use Rattle.mqb_network.specs.Laws.{Always}
use Rattle.mqb_network.specs.Network.{Network, manager_at}
use Rattle.mqb_orders.specs.Rows.{Row}
use Rattle.mqb_history.specs.Committed.{commitments_in}

-- In a state the name of a queue leads to a peer, which is this manager of the network.
pub record LeadsFrom (s : State) (n : Network) (destination : QueueName)
    (manager : ℕ) : Type 0 where
  pub peer : ℕ
  pub target : resolved s destination ≡ AtPeer peer
  pub identity : slice_get s.peers peer ≡ Some (manager_at n manager).state.identity
  pub there : manager < length n.managers

-- The name led to a manager when a record was made, and leads to the same one now.
pub record IsLed (c : Course) (w : Written) (destination : QueueName) : Type 0 where
  pub manager : ℕ
  pub once : LeadsFrom w.before c.network destination manager
  pub now : LeadsFrom (manager_at c.network w.by).state c.network destination manager

-- The destination of each message that a record commits does.
abbrev pub AreCommitmentsLed : Course → Type 0
AreCommitmentsLed c = (w : Written) (m : Commitment) → In w c.written
    → In m (commitments_in w.before w.entry) → IsLed c w m.message.destination

-- A stream goes from one manager of the network to another.
pub record IsBetween (n : Network) (stream : Stream) : Type 0 where
  pub source : ℕ
  pub manager : ℕ
  pub own : (manager_at n source).state.identity.guid ≡ stream.source
  pub leads : LeadsFrom (manager_at n source).state n stream.destination manager
  pub apart : source ≡ manager → ⊥

-- Each stream of which the ledger has a Committed line does.
abbrev pub AreStreamsLed : Course → Type 0
AreStreamsLed c = (stream : Stream) (number : ℕ) (id : MessageId)
    → In (line.Committed stream number id) c.network.ledger → IsBetween c.network stream

-- Each outgoing row of a manager leads to the peer to which its destination does.
abbrev pub AreRowsLed : Course → Type 0
AreRowsLed c = (i : ℕ) (row : Row) → In row (manager_at c.network i).state.outs
    → resolved (manager_at c.network i).state row.destination ≡ AtPeer row.peer

-- They do at each point of each run.
abbrev pub RowsAreLed : Type 0
RowsAreLed = Always AreRowsLed

-- What is committed to a stream leads to a manager of the network.
abbrev pub CommitmentsLeadToManagers : Type 0
CommitmentsLeadToManagers = Always (λ c. AreCommitmentsLed c × AreStreamsLed c)
