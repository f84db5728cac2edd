-- Small runs of two managers, each with what the disks do in it.
use Rattle.std.specs.Prelude.{[], ◌∷◌, List, codes, false, true, ℕ}
use Rattle.mqb_base.specs.declared.draft.Op.{Op}
use Rattle.mqb_base.specs.declared.draft.Op.TheVariants as asked
use Rattle.mqb_base.specs.declared.ids.Identity.{Identity}
use Rattle.mqb_base.specs.declared.times.TheConstants.{UNLIMITED}
use Rattle.mqb_model.specs.calls.Call.{Commit, CreateQueue, Tick}
use Rattle.mqb_model.specs.runs.Samples.{alpha, beta, orders, parts_of, plan}
use Rattle.mqb_network.specs.Choices.{Choice, Failed, Fails, Kept, Lost, Stopped, Unread, Well}
use Rattle.mqb_network.specs.Events.{Event}
use Rattle.mqb_network.specs.Events as event
use Rattle.mqb_network.specs.Runs.{Move}

-- an event in which no disk fails
abbrev pub well : Event → Move
well e = record { event = e; choice = Well }

-- an event in which this is chosen
abbrev pub given : Event → Choice → Move
given e choice = record { event = e; choice = choice }

-- the two managers
abbrev pub pair : List Identity
pair = alpha ∷ beta ∷ []

-- a queue of beta
abbrev pub a_queue : ℕ → Move
a_queue quota = well (event.Asks 1 (CreateQueue (plan (codes "orders") true quota false)))

-- a message to it
abbrev pub a_send : List ℕ → Op
a_send body = asked.Send (parts_of orders UNLIMITED 0 body)

-- alpha commits one message
abbrev pub one_order : Move
one_order = well (event.Asks 0 (Commit 1000 (a_send (codes "one") ∷ [])))

-- a queue of beta, and a connection
abbrev pub opening : List Move → List Move
opening ms = a_queue 100 ∷ well (event.Connect 0 1 1000 64 64) ∷ ms

-- One message is committed, sent, put and acknowledged.
abbrev pub one_message : List Move
one_message = opening (one_order
    ∷ well (event.Pump 0 1001)
    ∷ well (event.Deliver 5 1001)
    ∷ well (event.Pump 1 1002)
    ∷ well (event.Deliver 6 1002) ∷ [])

-- The receiver's disk fails under the second of three packets of a flow; then it cannot be read,
-- has the record, and cannot be read again.
abbrev pub one_unheard : List Move
one_unheard = opening (well (event.Asks 0
    (Commit 1000 (a_send (codes "one") ∷ a_send (codes "two") ∷ a_send (codes "three") ∷ [])))
    ∷ given (event.Flow 0 1001) (Fails 2 Failed)
    ∷ well (event.Asks 1 (Tick 1002))
    ∷ given (event.Restart 1) Unread
    ∷ given (event.Restart 1) Kept
    ∷ given (event.Restart 1) Unread
    ∷ given (event.Restart 1) Lost
    ∷ well (event.Restart 1) ∷ [])

-- The disk of the sender stops under the record of a pump, which is lost.
abbrev pub one_lost : List Move
one_lost = opening (one_order
    ∷ well (event.Arm 0)
    ∷ given (event.Pump 0 1001) (Fails 0 Stopped)
    ∷ given (event.Restart 0) Lost
    ∷ well (event.Connect 0 1 1002 64 64)
    ∷ well (event.Pump 0 1002) ∷ [])

-- The disk of the receiver stops under the record of an arrival, which is kept.
abbrev pub one_kept : List Move
one_kept = opening (one_order
    ∷ well (event.Pump 0 1001)
    ∷ given (event.Deliver 5 1001) (Fails 0 Stopped)
    ∷ given (event.Restart 1) Kept
    ∷ well (event.Connect 0 1 1002 64 64)
    ∷ well (event.Pump 0 1002)
    ∷ well (event.Deliver 10 1002) ∷ [])

-- A set-up packet that comes again closes the session; and a packet is dropped.
abbrev pub one_closed : List Move
one_closed = opening (well (event.Drop 2)
    ∷ well (event.Deliver 2 1000)
    ∷ well (event.Deliver 1 1000)
    ∷ well (event.Pump 0 1000)
    ∷ well (event.Deliver 9 1000) ∷ [])
