-- The record Commit: what it does, and when it fits.
use Rattle.std.specs.Prelude.{[], ◌&&◌, ◌+◌, ◌∷◌, Bool, List, None, Option, Some, filter_map, fold}
use Rattle.std.specs.Prelude.{is_some, length, true, ℕ}
use Rattle.mqb_base.specs.declared.ids.MessageId.{MessageId}
use Rattle.mqb_base.specs.declared.message.Message.{Message}
use Rattle.mqb_base.specs.declared.queue_names.QueueName.{QueueName}
use Rattle.mqb_base.specs.declared.queues.EntryPlace.{EntryPlace}
use Rattle.mqb_base.specs.declared.queues.EntryPlace.TheVariants as place
use Rattle.mqb_packet.specs.declared.packet.Headers.TheVariants as headers
use Rattle.mqb_queue.specs.First.{index_named}
use Rattle.mqb_model.specs.declared.target.Target.{Target}
use Rattle.mqb_model.specs.declared.target.Target.TheVariants.{AtPeer}
use Rattle.mqb_model.specs.records.Packets.{in_transaction, is_sendable}
use Rattle.mqb_model.specs.records.Record.{RecordOp, Send, Take}
use Rattle.mqb_model.specs.rules.Effects.{Effect, begun, joined}
use Rattle.mqb_model.specs.rules.Numbers.{numbers_taken}
use Rattle.mqb_model.specs.rules.Sends.{message_sent}
use Rattle.mqb_model.specs.rules.Sequences.{may_join}
use Rattle.mqb_model.specs.rules.Takes.{taken}
use Rattle.mqb_model.specs.state.Resolving.{resolved}
use Rattle.mqb_model.specs.state.State.{State}

-- the message that an op sends
abbrev pub sent_in : RecordOp → Option Message
sent_in (Send p) = Some (in_transaction p)
sent_in (Take queue id) = None

-- the messages that a transaction sends
abbrev pub sends_of : List RecordOp → List Message
sends_of ops = filter_map sent_in ops

-- an op that takes is made, and one that sends waits
abbrev pub op_taken : ℕ → Effect → RecordOp → Effect
op_taken now e (Send p) = e
op_taken now e (Take queue id) = taken (place.Queue queue) id now e

-- the sends have their numbers
abbrev pub sends_numbered : State → List RecordOp → Effect
sends_numbered s ops = begun (numbers_taken s (length (sends_of ops)))

-- and the takes are made
abbrev pub takes_made : State → ℕ → List RecordOp → Effect
takes_made s now ops = fold (op_taken now) (sends_numbered s ops) ops

-- one send is made
abbrev pub send_made : ℕ → Effect → Message → Effect
send_made now e m = joined e (message_sent now e.state m)

-- The sends take their numbers, then the takes are made, and then the sends.
abbrev pub commit_effect : State → ℕ → List RecordOp → Effect
commit_effect s now ops = fold (send_made now) (takes_made s now ops) (sends_of ops)

-- each packet bears the next number
abbrev pub sends_fit : State → ℕ → List RecordOp → Bool
sends_fit s number [] = true
sends_fit s number (Send p ∷ ops) =
    is_sendable s headers.TxAndSession number p && sends_fit s (number + 1) ops
sends_fit s number (Take queue id ∷ ops) = sends_fit s number ops

-- a message that is taken is there
abbrev pub take_fits : State → ℕ → EntryPlace → MessageId → Bool
take_fits s now at id = is_some (index_named s.places at id now)

-- each is, after the takes before it
abbrev pub takes_fit : Effect → ℕ → List RecordOp → Bool
takes_fit e now [] = true
takes_fit e now (Send p ∷ ops) = takes_fit e now ops
takes_fit e now (Take queue id ∷ ops) = take_fits e.state now (place.Queue queue) id
    && takes_fit (taken (place.Queue queue) id now e) now ops

-- a message for a peer finds its sequence
abbrev pub join_fits : State → Target → QueueName → Bool
join_fits s (AtPeer k) destination = may_join s k destination
join_fits s target destination = true

-- each does, after those before it
abbrev pub joins_fit : Effect → ℕ → List Message → Bool
joins_fit e now [] = true
joins_fit e now (m ∷ ms) = join_fits e.state (resolved e.state m.destination) m.destination
    && joins_fit (send_made now e m) now ms

-- the packets, the takes and the sequences fit
abbrev pub commit_fits : State → ℕ → List RecordOp → Bool
commit_fits s now ops = sends_fit s s.next_number ops
    && takes_fit (sends_numbered s ops) now ops
    && joins_fit (takes_made s now ops) now (sends_of ops)
