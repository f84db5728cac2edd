-- What replies show of the choices.
use Rattle.std.specs.Prelude.{[], ◌++◌, ◌∷◌, ◌≡◌, Bool, Err, IsTrue, List, Result, map, ℕ}
use Rattle.mqb_base.specs.declared.ids.Identity.{Identity}
use Rattle.mqb_journal.specs.declared.faults.CheckpointFault.{CheckpointFault}
use Rattle.mqb_journal.specs.declared.faults.CheckpointFault.TheVariants as fault
use Rattle.mqb_network.specs.Choices.{Choice, Failure}
use Rattle.mqb_network.specs.Courses.{Course}
use Rattle.mqb_network.specs.Doubts.{settled}
use Rattle.mqb_network.specs.Events.{Event}
use Rattle.mqb_network.specs.Laws.{AreApart}
use Rattle.mqb_network.specs.Replies.{Delivery, Reply}
use Rattle.mqb_network.specs.Replies as reply
use Rattle.mqb_network.specs.Runs.{IsRun, Move, after_run, answer, beginning, may, replies_from}

-- how a disk behaved, as an answer tells it: it failed; the record in doubt was kept, or lost; the
-- store was too far on; or none of these
pub data Sign : Type 0 where
  Broke : Failure → Sign
  Found : Sign
  Missed : Sign
  Far : Sign
  Quiet : Sign

-- of a packet that was delivered
abbrev pub sign_of : Delivery → Sign
sign_of (reply.Unheard how) = Broke how
sign_of _ = Quiet

-- of a base that was written, or not
abbrev pub base_sign : Result (Unit {0}) CheckpointFault → Sign
base_sign (Err fault.TooFar) = Far
base_sign _ = Quiet

-- of an event, and behind it those of the packets that flowed, in order
abbrev pub signs_of : Reply → List Sign
signs_of (reply.DiskFailed how) = Broke how ∷ []
signs_of (reply.Delivered delivery) = sign_of delivery ∷ []
signs_of (reply.Flowed arrivals) = Quiet ∷ map (λ a. sign_of a.delivery) arrivals
signs_of (reply.OpenedKept lines) = Found ∷ []
signs_of reply.OpenedLost = Missed ∷ []
signs_of (reply.Checkpointed given) = base_sign given ∷ []
signs_of _ = Quiet ∷ []

-- Two choices that may be made in an event are one where the answers give the same signs,
-- whatever follows these.
abbrev pub IsShown : Course → Event → Type 0
IsShown c e = (a b : Choice) (x y : List Sign) → IsTrue (may c e a) → IsTrue (may c e b)
    → signs_of (answer c (record { event = e; choice = a })).reply ++ x
    ≡ signs_of (answer c (record { event = e; choice = b })).reply ++ y → a ≡ b

-- Replies show what was chosen: in each event behind a run, and with each record in doubt
-- applied or left out.
abbrev pub RepliesShowChoices : Type 0
RepliesShowChoices =
    (known : List Identity) (ms : List Move) → AreApart known → IsRun known ms → (e : Event)
    → IsShown (after_run known ms) e
    × ((kept : ℕ → Bool) → IsShown (settled kept (after_run known ms)) e)

-- Two runs with the same events, in whose replies are the same signs, are one.
abbrev pub RunsAreShown : Type 0
RunsAreShown =
    (known : List Identity) (ms ns : List Move) → AreApart known → IsRun known ms → IsRun known ns
    → map (λ m. m.event) ms ≡ map (λ n. n.event) ns
    → map signs_of (replies_from (beginning known) ms)
    ≡ map signs_of (replies_from (beginning known) ns) → ms ≡ ns
