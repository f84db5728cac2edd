-- What final acknowledgements tell is so.
use Rattle.std.specs.Prelude.{◌≡◌, IsTrue, None, Some, ℕ}
use Rattle.mqb_base.specs.declared.class.Class.{Class}
use Rattle.mqb_exactly_once.specs.Words.{In}
use Rattle.mqb_exactly_once.specs.World.{Commitment, Decision}
use Rattle.mqb_network.specs.Courses.{Course}
use Rattle.mqb_network.specs.Laws.{Always, lines_written}
use Rattle.mqb_network.specs.Network.{Note}
use Rattle.mqb_packet.specs.declared.packet.Packet.TheVariants as packet
use Rattle.mqb_packet.specs.declared.packet.UserPacket.{UserPacket}
use Rattle.mqb_queue.specs.Places.{numbered}
use Rattle.mqb_history.specs.Committed.{commitments}
use Rattle.mqb_history.specs.Decided.{written_of}
use Rattle.mqb_history.specs.Fates.{CameTo}
use Rattle.mqb_history.specs.Shown.{channel_of, decisions_made, fate_of, is_final_ack}

-- A manager decided the message that another one committed, and it came to the
-- fate that a class tells.
pub record KnowsFate (c : Course) (i j : ℕ) (m : Commitment) (class : Class) : Type 0 where
  pub decision : Decision
  pub there : In decision
      (decisions_made (channel_of c.network i m.message.destination) (written_of j c.written))
  pub position : decision.position ≡ m.position
  pub names : decision.message.id ≡ m.message.id
  pub fate : CameTo (lines_written (written_of j c.written)) decision (fate_of class)

-- Each final acknowledgement that was ever sent tells a fate that its sender knows, where it names
-- another manager's committed message.
abbrev pub AreFatesTold : Course → Type 0
AreFatesTold c = (k : ℕ) (note : Note) (p : UserPacket) → numbered c.network.notes k ≡ Some note
    → numbered c.sent k ≡ Some (packet.User p)
    → p.tx ≡ None → IsTrue (is_final_ack p.message)
    → (i : ℕ) (m : Commitment) → (i ≡ note.sender → ⊥) → In m (commitments (written_of i c.written))
    → m.message.id ≡ p.message.correlation
    → KnowsFate c i note.sender m p.message.class

-- Final acknowledgements tell fates, at each point of each run.
abbrev pub FinalsTellFates : Type 0
FinalsTellFates = Always AreFatesTold
