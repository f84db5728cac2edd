-- Where the next message that is sent goes.
use Rattle.std.specs.Option.{option_map_or}
use Rattle.std.specs.Prelude.{[], ◌&&◌, ◌++◌, ◌+◌, ◌-◌, ◌==◌, ◌∷◌, ◌≤◌, Bool, Err, List, None, Ok}
use Rattle.std.specs.Prelude.{Option, Result, Some, false, filter, fold, if◌then◌else◌, length}
use Rattle.std.specs.Prelude.{nat_le, nat_lt, not, option_and_then, option_map, set, slice_get, ℕ}
use Rattle.mqb_base.specs.Same.{same_name}
use Rattle.mqb_base.specs.declared.draft.Parts.{Parts}
use Rattle.mqb_base.specs.declared.ids.Guid.{Guid}
use Rattle.mqb_base.specs.declared.ids.SequenceId.{SequenceId}
use Rattle.mqb_base.specs.declared.message.Delivery.TheVariants as delivery
use Rattle.mqb_base.specs.declared.message.Message.{Message}
use Rattle.mqb_base.specs.declared.queue_names.QueueName.{QueueName}
use Rattle.mqb_base.specs.declared.queues.QueuePlan.{QueuePlan}
use Rattle.mqb_fields.specs.Reading.{◌>>=◌}
use Rattle.mqb_orders.specs.Rows.{Row}
use Rattle.mqb_queue.specs.Lists.{count}
use Rattle.mqb_queue.specs.Places.{Queue, numbered}
use Rattle.mqb_model.specs.calls.Messages.{message_of}
use Rattle.mqb_model.specs.declared.answers.Done.TheVariants as done
use Rattle.mqb_model.specs.declared.faults.OpFault.{OpFault}
use Rattle.mqb_model.specs.declared.faults.OpFault.TheVariants as op_fault
use Rattle.mqb_model.specs.declared.limits.TheConstants.{MAX_ORDINAL}
use Rattle.mqb_model.specs.declared.target.Target.{Target}
use Rattle.mqb_model.specs.declared.target.Target.TheVariants as target
use Rattle.mqb_model.specs.rules.Numbers.{own_id}
use Rattle.mqb_model.specs.state.Resolving.{guid_at, resolved}
use Rattle.mqb_model.specs.state.Rows.{last_sequence}
use Rattle.mqb_model.specs.state.State.{State}
use Rattle.mqb_trying.specs.declared.notes.PlannedOp.TheVariants as planned
use Rattle.mqb_trying.specs.declared.notes.Route.{Route}
use Rattle.mqb_trying.specs.declared.notes.Route.TheVariants.{Begin, Join, Put}
use Rattle.mqb_trying.specs.declared.notes.SequenceEnd.{SequenceEnd}
use Rattle.mqb_trying.specs.Notes.{Noted}

-- Into a queue here.

-- how many messages were put into a queue
abbrev pub count_in : ℕ → List ℕ → ℕ
count_in number puts = length (filter (λ n. n == number) puts)

-- a transactional queue of this length takes a message while that, with those that were
-- put, is below its quota
abbrev pub put_by : QueuePlan → ℕ → List ℕ → ℕ → Result Route OpFault
put_by plan len puts number = if not plan.transactional then Err op_fault.NotTransactional
    else if nat_le plan.quota (len + count_in number puts) then Err op_fault.QueueFull
    else Ok (Put number)

abbrev pub put_route : List ℕ → ℕ → Queue → Result Route OpFault
put_route puts number q = put_by q.plan (count q.lists) puts number

-- To a peer.

-- how far a row has come: its sequence, and its last number
abbrev pub end_of : Row → SequenceId × ℕ
end_of r = (r.sequence, r.committed)

-- an end is of a sequence to a destination at a peer
abbrev pub leads_to : ℕ → QueueName → SequenceEnd → Bool
leads_to peer destination e = e.peer == peer && same_name e.destination destination

-- how far the last sequence to a destination at a peer has come, where it had come so far before
-- one was taken to an end
abbrev pub end_with : ℕ → QueueName → Option (SequenceId × ℕ) → SequenceEnd
    → Option (SequenceId × ℕ)
end_with peer destination last e =
    if leads_to peer destination e then Some (e.sequence, e.number) else last

-- how far it has come, where there is one
abbrev pub last_end : State → List SequenceEnd → ℕ → QueueName → Option (SequenceId × ℕ)
last_end s ends peer destination =
    fold (end_with peer destination) (option_map end_of (last_sequence s peer destination)) ends

-- it is not full
abbrev pub unless_full : ℕ → SequenceId × ℕ → Option (SequenceId × ℕ)
unless_full roll last = if nat_lt last.1 roll then Some last else None

-- the message joins it, or begins a new one
abbrev pub peer_route : State → Noted → ℕ → QueueName → Result Route OpFault
peer_route s n peer destination = option_map_or (λ last. Ok (Join peer last.0 (last.1 + 1)))
    (option_and_then (unless_full s.roll) (last_end s n.ends peer destination))
    (if nat_le n.next_ordinal MAX_ORDINAL then Ok (Begin peer) else Err op_fault.SequenceSpent)

-- Where it goes.

abbrev pub route_to : State → Noted → QueueName → Target → Result Route OpFault
route_to s n destination (target.Here None) = Err op_fault.NoQueue
route_to s n destination (target.Here (Some number)) =
    option_map_or (put_route n.puts number) (numbered s.places.queues number) (Err op_fault.NoQueue)
route_to s n destination (target.AtPeer k) = peer_route s n k destination
route_to s n destination target.Nowhere = Err op_fault.UnknownPeer

-- the route of a message to a destination
abbrev pub next_route : State → Noted → QueueName → Result Route OpFault
next_route s n destination = route_to s n destination (resolved s destination)

-- the target at the end of a route
abbrev pub target_of : Route → Target
target_of (Put queue) = target.Here (Some queue)
target_of (Join peer sequence number) = target.AtPeer peer
target_of (Begin peer) = target.AtPeer peer

-- the message of the next send: its number is the next, and its priority 0
abbrev pub next_message : State → Noted → ℕ → Parts → Message
next_message s n now p = message_of (own_id s n.next_number) delivery.Recoverable 0 now p

-- the sequence that begins
abbrev pub new_sequence : Noted → ℕ → SequenceId
new_sequence n now = record { ordinal = n.next_ordinal; stamp = now }

-- an ordinal is left for a route
abbrev pub CanGo : Noted → Route → Type 0
CanGo n (Begin peer) = n.next_ordinal ≤ MAX_ORDINAL
CanGo n _ = Unit {0}

-- a message was put into a queue here
abbrev pub with_put : Noted → ℕ → Message → Noted
with_put n queue m = record n { puts = n.puts ++ queue ∷ []; done = n.done ++ done.Put m.id ∷ [] }

-- the last end leads to a destination at a peer
abbrev pub last_leads_to : ℕ → QueueName → List SequenceEnd → Bool
last_leads_to peer destination ends =
    option_map_or (leads_to peer destination) (slice_get ends (length ends - 1)) false

-- a sequence came to an end: it stands in the place of the last one, where that leads to the same
abbrev pub with_end : List SequenceEnd → SequenceEnd → List SequenceEnd
with_end ends e =
    if last_leads_to e.peer e.destination ends then set ends (length ends - 1) e else ends ++ e ∷ []

-- a message joined a sequence under a number
abbrev pub with_join : Noted → ℕ → Message → SequenceId → ℕ → Noted
with_join n peer m sequence number = record n {
  ends = with_end n.ends
      (record { peer = peer; destination = m.destination; sequence = sequence; number = number });
  done = n.done ++ done.Sent m.id sequence number ∷ [];
}

-- a message goes by a route
abbrev pub with_route : Noted → ℕ → Message → Route → Noted
with_route n now m (Put queue) = with_put n queue m
with_route n now m (Join peer sequence number) = with_join n peer m sequence number
with_route n now m (Begin peer) =
    record (with_join n peer m (new_sequence n now) 1) { next_ordinal = n.next_ordinal + 1 }

-- a message was sent, and took a number
abbrev pub with_send : Noted → Message → Guid → Noted
with_send n m to =
    record n { next_number = n.next_number + 1; ops = n.ops ++ planned.Send m to ∷ [] }

-- a message goes by a route to where that leads
abbrev pub sent_by : State → Noted → ℕ → Message → Route → Noted
sent_by s n now m route = with_send (with_route n now m route) m (guid_at s (target_of route))

-- the next message is sent
abbrev pub try_send : State → ℕ → Noted → Parts → Result Noted OpFault
try_send s now n p =
    next_route s n p.destination >>= λ route. Ok (sent_by s n now (next_message s n now p) route)
