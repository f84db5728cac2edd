-- A small run in which a plain message is put twice.
use Rattle.std.specs.Prelude.{[], ◌∷◌, ◌≡◌, List, Some, codes, false, map, true, ℕ}
use Rattle.mqb_base.specs.declared.bits.TheConstants.{NEGATIVE_RECEIVE}
use Rattle.mqb_base.specs.declared.class.Class.{Class}
use Rattle.mqb_base.specs.declared.class.TheConstants.Class.{QUEUE_PURGED}
use Rattle.mqb_base.specs.declared.draft.Parts.{Parts}
use Rattle.mqb_base.specs.declared.ids.MessageId.{MessageId}
use Rattle.mqb_base.specs.declared.ledger.Line.TheVariants as line
use Rattle.mqb_base.specs.declared.queues.Place.TheVariants as named
use Rattle.mqb_base.specs.declared.times.TheConstants.{UNLIMITED}
use Rattle.mqb_model.specs.calls.Call.{CreateQueue, Purge, Send, Take}
use Rattle.mqb_model.specs.runs.Samples.{of_alpha, parts_of, plan, queue_at, remote_notes}
use Rattle.mqb_network.specs.Events as event
use Rattle.mqb_network.specs.Network.{Network, manager_at}
use Rattle.mqb_network.specs.Runs.{IsRun, Move}
use Rattle.mqb_network.specs.Scripts.{pair, well}
use Rattle.mqb_network.specs.Worked.{network_of}

-- a queue of beta that is not transactional
abbrev pub a_plain_queue : List ℕ → Move
a_plain_queue name = well (event.Asks 1 (CreateQueue (plan name false 100 false)))

-- a message to one of them, which asks to hear in the other one that it was not received
abbrev pub asking : Parts
asking = record (parts_of remote_notes UNLIMITED 0 (codes "hi")) {
  admin = Some (queue_at (codes "beta") (codes "box"));
  ack = NEGATIVE_RECEIVE;
}

-- The message is sent and put, and the connection ends before that is acknowledged. So it is sent
-- and put again. One copy is taken, and one purged.
abbrev pub one_twice : List Move
one_twice = a_plain_queue (codes "notes")
    ∷ a_plain_queue (codes "box")
    ∷ well (event.Connect 0 1 1000 64 64)
    ∷ well (event.Asks 0 (Send 1000 true asking))
    ∷ well (event.Pump 0 1001)
    ∷ well (event.Deliver 5 1001)
    ∷ well (event.Disconnect 0)
    ∷ well (event.Connect 0 1 1002 64 64)
    ∷ well (event.Pump 0 1002)
    ∷ well (event.Deliver 10 1002)
    ∷ well (event.Asks 1 (Take 1003 (named.Queue (codes "notes"))))
    ∷ well (event.Asks 1 (Purge 1003 (named.Queue (codes "notes")))) ∷ []

-- a message tells of a class
pub record Telling : Type 0 where
  pub class : Class
  pub about : MessageId

-- what the messages of the queues of a manager tell
abbrev pub told_in : Network → ℕ → List (List Telling)
told_in n i =
    map (λ q. map (λ m. record { class = m.class; about = m.correlation }) q.lists.durable)
    (manager_at n i).state.places.queues

-- A notice says that the message was not received, and it was taken.
pub record OneIsTakenAndMissed : Type 0 where
  pub run : IsRun pair one_twice
  pub ledger : (network_of one_twice).ledger
      ≡ line.Stored (of_alpha 1) ∷ line.Stored (of_alpha 1) ∷ line.Took (of_alpha 1)
      ∷ line.Purged (of_alpha 1) ∷ []
  pub notice : told_in (network_of one_twice) 1
      ≡ [] ∷ (record { class = QUEUE_PURGED; about = of_alpha 1 } ∷ []) ∷ []
