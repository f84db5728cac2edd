-- What is committed is what an event of the run asked for.
use Rattle.std.specs.Prelude.{◌≡◌, Bool, List, ℕ}
use Rattle.mqb_base.specs.declared.draft.Op.{Op}
use Rattle.mqb_base.specs.declared.draft.Op.TheVariants as asked
use Rattle.mqb_base.specs.declared.draft.Parts.{Parts}
use Rattle.mqb_base.specs.declared.ids.Identity.{Identity}
use Rattle.mqb_base.specs.declared.message.Delivery.TheVariants.{Transactional}
use Rattle.mqb_base.specs.declared.message.Message.{Message}
use Rattle.mqb_exactly_once.specs.Words.{In}
use Rattle.mqb_exactly_once.specs.World.{Commitment}
use Rattle.mqb_model.specs.calls.Call.{Commit}
use Rattle.mqb_model.specs.calls.Messages.{message_of}
use Rattle.mqb_network.specs.Courses.{Course}
use Rattle.mqb_network.specs.Doubts.{settled}
use Rattle.mqb_network.specs.Events as event
use Rattle.mqb_network.specs.Laws.{AreApart}
use Rattle.mqb_network.specs.Runs.{IsRun, Move, after_run}
use Rattle.mqb_history.specs.Committed.{commitments}
use Rattle.mqb_history.specs.Decided.{written_of}

-- One of these moves asks a manager to commit a message: at this moment, and with these parts.
pub record IsAskedFor (ms : List Move) (i : ℕ) (m : Message) : Type 0 where
  pub move : Move
  pub now : ℕ
  pub ops : List Op
  pub parts : Parts
  pub there : In move ms
  pub asks : move.event ≡ event.Asks i (Commit now ops)
  pub send : In (asked.Send parts) ops
  pub message : m ≡ message_of m.id Transactional 0 now parts

-- Each message that a manager committed is asked for.
abbrev pub AreAskedFor : List Move → Course → Type 0
AreAskedFor ms c = (i : ℕ) (x : Commitment) → In x (commitments (written_of i c.written))
    → IsAskedFor ms i x.message

-- What is committed in a run is what its events ask for.
abbrev pub CommittedIsAsked : Type 0
CommittedIsAsked =
    (known : List Identity) (ms : List Move) → AreApart known → IsRun known ms → (kept : ℕ → Bool)
    → AreAskedFor ms (settled kept (after_run known ms))
