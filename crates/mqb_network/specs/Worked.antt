-- What is answered in the small runs.
use Rattle.std.specs.Prelude.{[], ◌∷◌, ◌≡◌, Err, List, Ok, drop, map, ℕ}
use Rattle.mqb_base.specs.declared.heard.Cause.TheVariants.{Repeated}
use Rattle.mqb_base.specs.declared.heard.Heard.TheVariants as heard
use Rattle.mqb_base.specs.declared.ids.MessageId.{MessageId}
use Rattle.mqb_base.specs.declared.ids.SequenceId.{SequenceId}
use Rattle.mqb_base.specs.declared.ledger.Line.TheVariants as line
use Rattle.mqb_model.specs.calls.Call as answer
use Rattle.mqb_model.specs.declared.answers.Done.TheVariants as done
use Rattle.mqb_model.specs.declared.faults.PumpFault.TheVariants as pump_fault
use Rattle.mqb_model.specs.declared.faults.StoreFault.TheVariants as store_fault
use Rattle.mqb_model.specs.runs.Samples.{ids_of, of_alpha, to_orders}
use Rattle.mqb_network.specs.Choices.{Failed, Stopped}
use Rattle.mqb_network.specs.Network.{Network, manager_at}
use Rattle.mqb_network.specs.Replies as reply
use Rattle.mqb_network.specs.Runs.{IsRun, Move, after_run, beginning, replies_from}
use Rattle.mqb_network.specs.Scripts.{one_closed, one_kept, one_lost, one_message}
use Rattle.mqb_network.specs.Scripts.{one_unheard, pair}

-- the replies of a run
abbrev pub replies_of : List Move → List reply.Reply
replies_of ms = replies_from (beginning pair) ms

-- the network after it
abbrev pub network_of : List Move → Network
network_of ms = (after_run pair ms).network

-- the sequence of the messages
abbrev pub first : SequenceId
first = (to_orders 1).sequence

-- the marks of each outgoing row: how many were committed, and the numbers that were
-- offered and acknowledged
abbrev pub marks_of : Network → ℕ → List (List ℕ)
marks_of n i = map (λ row. row.committed ∷ row.offered ∷ row.acked ∷ []) (manager_at n i).state.outs

-- the messages of each queue
abbrev pub queues_of : Network → ℕ → List (List MessageId)
queues_of n i = map (λ q. ids_of q.lists.durable) (manager_at n i).state.places.queues

-- what became of a packet
abbrev pub at_delivery : ℕ → reply.Delivery → reply.Arrival
at_delivery k what = record { packet = k; delivery = what }

-- a commit of one message that is the next of its sequence
abbrev pub one_committed : reply.Reply
one_committed = reply.Called (answer.Committed (Ok (done.Sent (of_alpha 1) first 1 ∷ [])))
    (line.Committed (to_orders 1) 1 (of_alpha 1) ∷ [])

-- The message is committed, sent, put and acknowledged, and the ledger has two lines.
pub record OneArrives : Type 0 where
  pub run : IsRun pair one_message
  pub replies : replies_of one_message
      ≡ reply.Called (answer.Created (Ok 1)) []
      ∷ reply.Connected (1 ∷ 2 ∷ 3 ∷ 4 ∷ [])
      ∷ one_committed
      ∷ reply.Pumped (5 ∷ [])
      ∷ reply.Delivered
      (reply.Heard (heard.Put first 1) (line.Put (to_orders 1) 1 (of_alpha 1) ∷ []))
      ∷ reply.Pumped (6 ∷ [])
      ∷ reply.Delivered (reply.Heard (heard.OrderAcked 1 1) [])
      ∷ []
  pub ledger : (network_of one_message).ledger
      ≡ line.Committed (to_orders 1) 1 (of_alpha 1) ∷ line.Put (to_orders 1) 1 (of_alpha 1) ∷ []
  pub marks : marks_of (network_of one_message) 0 ≡ (1 ∷ 1 ∷ 1 ∷ []) ∷ []
  pub queue : queues_of (network_of one_message) 1 ≡ (of_alpha 1 ∷ []) ∷ []
  pub moments : map (λ note. note.moment) (network_of one_message).notes
      ≡ 1000 ∷ 1000 ∷ 1000 ∷ 1000 ∷ 1001 ∷ 1002 ∷ []

-- The second of three is in doubt until its record is found, and the third is not heard.
pub record OneIsUnheard : Type 0 where
  pub run : IsRun pair one_unheard
  pub replies : drop 3 (replies_of one_unheard)
      ≡ reply.Flowed (
      at_delivery 5 (reply.Heard (heard.Put first 1) (line.Put (to_orders 1) 1 (of_alpha 1) ∷ []))
      ∷ at_delivery 6 (reply.Unheard Failed)
      ∷ at_delivery 7 reply.Gone
      ∷ [])
      ∷ reply.Called (answer.Ticked (Err store_fault.Down)) []
      ∷ reply.DiskFailed Failed
      ∷ reply.OpenedKept (line.Put (to_orders 1) 2 (of_alpha 2) ∷ [])
      ∷ reply.DiskFailed Failed
      ∷ reply.OpenedLost
      ∷ reply.Opened
      ∷ []
  pub queue : queues_of (network_of one_unheard) 1 ≡ (of_alpha 1 ∷ of_alpha 2 ∷ []) ∷ []

-- The mark that is lost is as if there had been no pump.
pub record OneIsLost : Type 0 where
  pub run : IsRun pair one_lost
  pub replies : replies_of one_lost
      ≡ reply.Called (answer.Created (Ok 1)) []
      ∷ reply.Connected (1 ∷ 2 ∷ 3 ∷ 4 ∷ [])
      ∷ one_committed
      ∷ reply.Armed
      ∷ reply.DiskFailed Stopped
      ∷ reply.OpenedLost
      ∷ reply.Connected (5 ∷ 6 ∷ 7 ∷ 8 ∷ [])
      ∷ reply.Pumped (9 ∷ [])
      ∷ []

-- The arrival that is kept is as if the call had gone well: the message that comes
-- again is a duplicate.
pub record OneIsKept : Type 0 where
  pub run : IsRun pair one_kept
  pub replies : replies_of one_kept
      ≡ reply.Called (answer.Created (Ok 1)) []
      ∷ reply.Connected (1 ∷ 2 ∷ 3 ∷ 4 ∷ [])
      ∷ one_committed
      ∷ reply.Pumped (5 ∷ [])
      ∷ reply.DiskFailed Stopped
      ∷ reply.OpenedKept (line.Put (to_orders 1) 1 (of_alpha 1) ∷ [])
      ∷ reply.Connected (6 ∷ 7 ∷ 8 ∷ 9 ∷ [])
      ∷ reply.Pumped (10 ∷ [])
      ∷ reply.Delivered (reply.Heard (heard.Duplicate first 1) [])
      ∷ []

-- A dropped packet is gone, and the set-up packet that comes again ends the connection.
pub record OneCloses : Type 0 where
  pub run : IsRun pair one_closed
  pub replies : replies_of one_closed
      ≡ reply.Called (answer.Created (Ok 1)) []
      ∷ reply.Connected (1 ∷ 2 ∷ 3 ∷ 4 ∷ [])
      ∷ reply.Dropped
      ∷ reply.Delivered reply.Gone
      ∷ reply.Delivered (reply.Heard (heard.Closed Repeated) [])
      ∷ reply.NotPumped pump_fault.NotLinked
      ∷ reply.NoPacket
      ∷ []
