-- Where each message comes from: the event of a run that asked a manager to send it.
use Rattle.std.specs.Prelude.{◌==◌, ◌≡◌, ◌⊎◌, Bool, IsFalse, IsTrue, List, Ok, Some, if◌then◌else◌}
use Rattle.std.specs.Prelude.{slice_get, ℕ}
use Rattle.mqb_base.specs.declared.class.TheConstants.Class.{ORDER_ACKNOWLEDGEMENT}
use Rattle.mqb_base.specs.declared.draft.Op.{Op}
use Rattle.mqb_base.specs.declared.draft.Parts.{Parts}
use Rattle.mqb_base.specs.declared.ids.Identity.{Identity}
use Rattle.mqb_base.specs.declared.message.Delivery.TheVariants.{Express, Recoverable}
use Rattle.mqb_base.specs.declared.message.Message.{Message}
use Rattle.mqb_base.specs.declared.queues.Place.{Place}
use Rattle.mqb_exactly_once.specs.Words.{In}
use Rattle.mqb_fate.specs.Asking.{is_ordinary}
use Rattle.mqb_model.specs.calls.Call.{Send}
use Rattle.mqb_model.specs.calls.Commit.{commit}
use Rattle.mqb_model.specs.calls.Messages.{message_of}
use Rattle.mqb_model.specs.calls.Take.{take_message}
use Rattle.mqb_model.specs.declared.answers.Done.{Done}
use Rattle.mqb_model.specs.declared.answers.Done.TheVariants as done
use Rattle.mqb_network.specs.Courses.{Course}
use Rattle.mqb_network.specs.Doubts.{settled}
use Rattle.mqb_network.specs.Events as event
use Rattle.mqb_network.specs.Laws.{AreApart}
use Rattle.mqb_network.specs.Network.{manager_at}
use Rattle.mqb_network.specs.Runs.{IsRun, Move, after_run}
use Rattle.mqb_history.specs.Asked.{IsAskedFor}
use Rattle.mqb_history.specs.Truths.{noticed}

-- One of these moves asks a manager to send a message by itself, recoverable or express: at this
-- moment, and with these parts.
pub record IsAskedAlone (ms : List Move) (i : ℕ) (m : Message) : Type 0 where
  pub move : Move
  pub now : ℕ
  pub recoverable : Bool
  pub parts : Parts
  pub there : In move ms
  pub asks : move.event ≡ event.Asks i (Send now recoverable parts)
  pub message : m
      ≡ message_of m.id (if recoverable then Recoverable else Express) parts.priority now parts

-- A message was asked for, in a transaction or by itself, of the manager whose GUID its identifier
-- bears; it is the same in every field but the time to reach its queue.
pub record IsTraced (known : List Identity) (ms : List Move) (m : Message) : Type 0 where
  pub by : ℕ
  pub own : Identity
  pub there : slice_get known by ≡ Some own
  pub source : m.id.qm ≡ own.guid
  pub send : Message
  pub same : m ≡ record send { reach = m.reach }
  pub asked : IsAskedFor ms by send ⊎ IsAskedAlone ms by send

-- So was each message that there is, unless it is a notice.
abbrev pub AreTraced : List Identity → List Move → Course → Type 0
AreTraced known ms c =
    (m : Message) → In m (noticed c) → IsTrue (is_ordinary m) → IsTraced known ms m

-- a message acknowledges what a row owes
abbrev pub is_order_acknowledgement : Message → Bool
is_order_acknowledgement m = m.class.0 == ORDER_ACKNOWLEDGEMENT.0

-- what a notice names was asked for
pub record IsAbout (known : List Identity) (ms : List Move) (m : Message) : Type 0 where
  pub subject : Message
  pub names : subject.id ≡ m.correlation
  pub traced : IsTraced known ms subject

abbrev pub AreNoticesTraced : List Identity → List Move → Course → Type 0
AreNoticesTraced known ms c = (m : Message) → In m (noticed c) → IsFalse (is_ordinary m)
    → IsFalse (is_order_acknowledgement m) → IsAbout known ms m

-- And so was each that a take answers.
abbrev pub AreTakesTraced : List Identity → List Move → Course → Type 0
AreTakesTraced known ms c = (i now : ℕ) (place : Place) (m : Message)
    → (take_message (manager_at c.network i) place now).answer ≡ Ok m → IsTrue (is_ordinary m)
    → IsTraced known ms m

-- And each that a transaction takes.
abbrev pub AreTakesOfCommitsTraced : List Identity → List Move → Course → Type 0
AreTakesOfCommitsTraced known ms c = (i now : ℕ) (ops : List Op) (answers : List Done) (m : Message)
    → (commit (manager_at c.network i) ops now).answer ≡ Ok answers → In (done.Took m) answers
    → IsTrue (is_ordinary m) → IsTraced known ms m

pub record AreAllTraced (known : List Identity) (ms : List Move) (c : Course) : Type 0 where
  pub messages : AreTraced known ms c
  pub notices : AreNoticesTraced known ms c
  pub takes : AreTakesTraced known ms c
  pub commits : AreTakesOfCommitsTraced known ms c

-- What is taken in a run is what its events ask to send.
abbrev pub TakenIsAsked : Type 0
TakenIsAsked =
    (known : List Identity) (ms : List Move) → AreApart known → IsRun known ms → (kept : ℕ → Bool)
    → AreAllTraced known ms (settled kept (after_run known ms))
