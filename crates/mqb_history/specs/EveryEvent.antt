-- A run of two managers that has each kind of event and each choice of the disks,
-- with the reply to each.
use Rattle.std.specs.List.{range_with_len}
use Rattle.std.specs.Prelude.{[], ◌++◌, ◌∷◌, ◌≡◌, All, Err, List, Ok, codes, map, true, ℕ}
use Rattle.mqb_base.specs.declared.bits.TheConstants.{DEAD_LETTER}
use Rattle.mqb_base.specs.declared.class.TheConstants.Class.{QUOTA_EXCEEDED}
use Rattle.mqb_base.specs.declared.draft.Op.{Op}
use Rattle.mqb_base.specs.declared.draft.Op.TheVariants as asked
use Rattle.mqb_base.specs.declared.draft.Parts.{Parts}
use Rattle.mqb_base.specs.declared.heard.Heard.TheVariants as heard
use Rattle.mqb_base.specs.declared.ledger.Line.TheVariants as line
use Rattle.mqb_base.specs.declared.message.Delivery.TheVariants.{Transactional}
use Rattle.mqb_base.specs.declared.queues.Place.TheVariants as named
use Rattle.mqb_base.specs.declared.times.TheConstants.{UNLIMITED}
use Rattle.mqb_journal.specs.declared.faults.CheckpointFault.TheVariants as fault
use Rattle.mqb_model.specs.calls.Call.{Commit, Purge, Send, Set, Take, Tick}
use Rattle.mqb_model.specs.calls.Call as answer
use Rattle.mqb_model.specs.records.Record.{Roll}
use Rattle.mqb_model.specs.calls.Messages.{message_of}
use Rattle.mqb_model.specs.declared.answers.Done.TheVariants as done
use Rattle.mqb_model.specs.runs.Samples.{of_alpha, of_beta, orders, parts_of}
use Rattle.mqb_model.specs.runs.Samples.{remote_notes, to_orders}
use Rattle.mqb_network.specs.Choices.{Choice, Failed, Fails, Kept, Lost, Stopped, Unread}
use Rattle.mqb_network.specs.Events.{Event}
use Rattle.mqb_network.specs.Events as event
use Rattle.mqb_network.specs.Replies.{Reply}
use Rattle.mqb_network.specs.Replies as reply
use Rattle.mqb_network.specs.Runs.{IsRun, Move}
use Rattle.mqb_network.specs.Scripts.{a_queue, given, pair, well}
use Rattle.mqb_network.specs.Worked.{at_delivery, network_of, replies_of}
use Rattle.mqb_history.specs.Drafted.{AreInOrder, IsDraftedEvent}
use Rattle.mqb_history.specs.Shown.{Leads}
use Rattle.mqb_history.specs.Twice.{a_plain_queue}

-- a move, and the reply to it
pub record Exchange : Type 0 where
  pub move : Move
  pub reply : Reply

-- an event in which no disk fails, and its reply
abbrev pub asks : Event → Reply → Exchange
asks e answer = record { move = well e; reply = answer }

-- an event in which this is chosen, and its reply
abbrev pub chooses : Event → Choice → Reply → Exchange
chooses e choice answer = record { move = given e choice; reply = answer }

-- a connection of alpha and beta, which is set up by four packets from this one on
abbrev pub connects : (now first : ℕ) → Exchange
connects now first = asks (event.Connect 0 1 now 64 64) (reply.Connected (range_with_len first 4))

-- What alpha sends: three messages of one transaction, the second of which is to be there in ten
-- seconds; and a plain one.

abbrev pub first_parts : Parts
first_parts = parts_of orders UNLIMITED 0 (codes "one")

abbrev pub three_sends : List Op
three_sends = asked.Send first_parts
    ∷ asked.Send (parts_of orders 10 0 (codes "two"))
    ∷ asked.Send (parts_of orders UNLIMITED DEAD_LETTER (codes "three")) ∷ []

-- Beta has a queue for one message, and a plain queue. Alpha's sequences are full with two
-- messages, so the third message begins another one. The second expires.
abbrev pub committing : List Exchange
committing = record { move = a_queue 1; reply = reply.Called (answer.Created (Ok 1)) [] }
    ∷ record {
      move = a_plain_queue (codes "notes");
      reply = reply.Called (answer.Created (Ok 2)) [];
    }
    ∷ asks (event.Asks 0 (Set (Roll 2))) (reply.Called (answer.WasSet (Ok tt)) [])
    ∷ asks (event.Asks 0 (Commit 1000 three_sends)) (reply.Called (answer.Committed
    (Ok (done.Sent (of_alpha 1) (to_orders 1).sequence 1 ∷ done.Sent (of_alpha 2)
    (to_orders 1).sequence 2 ∷ done.Sent (of_alpha 3) (to_orders 2).sequence 1 ∷ [])))
    (line.Committed (to_orders 1) 1 (of_alpha 1) ∷ line.Committed (to_orders 1) 2 (of_alpha 2)
    ∷ line.Committed (to_orders 2) 1 (of_alpha 3) ∷ []))
    ∷ asks (event.Asks 0 (Tick 1010))
    (reply.Called (answer.Ticked (Ok (record { durable = 1; express = 0 })))
    (line.Expired (to_orders 1) 2 (of_alpha 2) 1010 ∷ []))
    ∷ []

-- Alpha's disk stops under the record of a pump. While alpha is down, no state is written anew. The
-- disk cannot be read, and then the record is lost: nothing went.
abbrev pub losing : List Exchange
losing = connects 1010 1
    ∷ asks (event.Arm 0) reply.Armed
    ∷ chooses (event.Pump 0 1011) (Fails 0 Stopped) (reply.DiskFailed Stopped)
    ∷ asks (event.Checkpoint 0) (reply.Checkpointed (Err fault.Down))
    ∷ chooses (event.Restart 0) Unread (reply.DiskFailed Failed)
    ∷ chooses (event.Restart 0) Lost reply.OpenedLost
    ∷ []

-- Beta's disk fails under the record of the first message, which is kept: it was put.
abbrev pub keeping : List Exchange
keeping = connects 1012 5
    ∷ asks (event.Pump 0 1012) (reply.Pumped (9 ∷ []))
    ∷ chooses (event.Deliver 9 1012) (Fails 0 Failed) (reply.DiskFailed Failed)
    ∷ chooses (event.Restart 1) Kept (reply.OpenedKept (line.Put (to_orders 1) 1 (of_alpha 1) ∷ []))
    ∷ []

-- Alpha sends the message again in the next connection. That packet is dropped, so it sends anew;
-- what comes is a duplicate, and acknowledged.
abbrev pub repeating : List Exchange
repeating = connects 1014 10
    ∷ asks (event.Pump 0 1014) (reply.Pumped (14 ∷ []))
    ∷ asks (event.Drop 14) reply.Dropped
    ∷ asks (event.Pump 0 1015) (reply.Pumped [])
    ∷ asks (event.Resend 0) reply.Resent
    ∷ asks (event.Pump 0 1015) (reply.Pumped (15 ∷ []))
    ∷ asks (event.Deliver 14 1015) (reply.Delivered reply.Gone)
    ∷ asks (event.Deliver 15 1015)
    (reply.Delivered (reply.Heard (heard.Duplicate (to_orders 1).sequence 1) []))
    ∷ asks (event.Pump 1 1016) (reply.Pumped (16 ∷ []))
    ∷ asks (event.Deliver 16 1016) (reply.Delivered (reply.Heard (heard.OrderAcked 1 1) []))
    ∷ []

-- Now the second sequence goes. Its message is refused, since the queue is full; alpha hears so,
-- and beta that this was stored.
abbrev pub refusing : List Exchange
refusing = asks (event.Flow 0 1017) (reply.Flowed (at_delivery 17
    (reply.Heard (heard.Refused (to_orders 2).sequence 1 QUOTA_EXCEEDED)
    (line.Refused (to_orders 2) 1 QUOTA_EXCEEDED (of_alpha 3) ∷ [])) ∷ []))
    ∷ asks (event.Flow 1 1018) (reply.Flowed (at_delivery 18 (reply.Heard (heard.OrderAcked 2 1) [])
    ∷ at_delivery 19
    (reply.Heard (heard.Final (of_alpha 3) QUOTA_EXCEEDED) (line.Stored (of_beta 1) ∷ []))
    ∷ []))
    ∷ asks (event.Flow 0 1018) (reply.Flowed
    (at_delivery 20 (reply.Heard heard.Session (line.Released (of_beta 1) ∷ [])) ∷ []))
    ∷ asks (event.Disconnect 0) reply.Disconnected
    ∷ []

-- A plain message is sent, stored and released. The message of the first queue is taken, and that
-- of the other purged.
abbrev pub taking : List Exchange
taking = connects 1019 21
    ∷ asks (event.Asks 0 (Send 1019 true (parts_of remote_notes UNLIMITED 0 (codes "hi"))))
    (reply.Called (answer.Sent (Ok (of_alpha 4))) [])
    ∷ asks (event.Flow 0 1020) (reply.Flowed
    (at_delivery 25 (reply.Heard heard.Stored (line.Stored (of_alpha 4) ∷ [])) ∷ []))
    ∷ asks (event.Flow 1 1020) (reply.Flowed
    (at_delivery 26 (reply.Heard heard.Session (line.Released (of_alpha 4) ∷ [])) ∷ []))
    ∷ asks (event.Asks 1 (Take 1021 (named.Queue (codes "orders"))))
    (reply.Called (answer.Took (Ok (message_of (of_alpha 1) Transactional 0 1000 first_parts)))
    (line.Took (of_alpha 1) ∷ []))
    ∷ asks (event.Asks 1 (Purge 1021 (named.Queue (codes "notes"))))
    (reply.Called (answer.Purged (Ok 1)) (line.Purged (of_alpha 4) ∷ []))
    ∷ asks (event.Restart 1) reply.Opened
    ∷ []

-- all of it
abbrev pub every_event : List Exchange
every_event = committing ++ losing ++ keeping ++ repeating ++ refusing ++ taking

-- its moves
abbrev pub moves : List Move
moves = map (λ x. x.move) every_event

-- It is a run, and each reply is as it says. Its managers, and what its events ask for, are in
-- order, and a destination leads from one manager to the other: so each law of runs speaks of it.
pub record EveryEventIsAnswered : Type 0 where
  pub in_order : AreInOrder pair
  pub drafted : All (λ m. IsDraftedEvent m.event) moves
  pub run : IsRun pair moves
  pub replies : replies_of moves ≡ map (λ x. x.reply) every_event
  pub leads : Leads (network_of moves) 0 1 orders
