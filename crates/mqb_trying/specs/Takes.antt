-- Which messages are left in a queue, and which of them is next.
use Rattle.std.specs.Option.{option_map_or}
use Rattle.std.specs.Prelude.{[], ◌&&◌, ◌++◌, ◌+◌, ◌==◌, ◌||◌, ◌∷◌, Bool, Err, List, None, Ok}
use Rattle.std.specs.Prelude.{Option, Result, Some, fold, if◌then◌else◌, max, nat_le, nat_lt, not}
use Rattle.std.specs.Prelude.{option_and_then, option_map, slice_get, true, ℕ}
use Rattle.mqb_base.specs.declared.message.Message.{Message}
use Rattle.mqb_base.specs.Times.{is_due}
use Rattle.mqb_fields.specs.Reading.{◌>>=◌}
use Rattle.mqb_queue.specs.Places.{Queue, numbered}
use Rattle.mqb_model.specs.declared.answers.Done.TheVariants as done
use Rattle.mqb_model.specs.declared.faults.OpFault.{OpFault}
use Rattle.mqb_model.specs.declared.faults.OpFault.TheVariants as op_fault
use Rattle.mqb_model.specs.state.Resolving.{queue_named}
use Rattle.mqb_model.specs.state.State.{State}
use Rattle.mqb_trying.specs.declared.notes.PlannedOp.TheVariants as planned
use Rattle.mqb_trying.specs.declared.notes.Take.{Take}
use Rattle.mqb_trying.specs.declared.takes.Mark.{Mark}
use Rattle.mqb_trying.specs.Notes.{Noted}

-- the index of the last take of a queue
abbrev pub last_index : List Take → ℕ → Option ℕ
last_index takes queue = fold (λ last t. if t.queue == queue then Some t.index else last) None takes

-- a message at an index, as the last one that was taken
abbrev pub mark_at : List Message → ℕ → Option Mark
mark_at ms k = option_map (λ m. record { index = k; priority = m.priority }) (slice_get ms k)

-- the last one of these messages of a queue that was taken
abbrev pub mark_of : List Take → ℕ → List Message → Option Mark
mark_of takes queue ms = option_and_then (mark_at ms) (last_index takes queue)

-- a message at an index comes after another one: it has a lesser priority, or the
-- same and stands behind
abbrev pub comes_after : Mark → ℕ → Message → Bool
comes_after mark k m =
    nat_lt m.priority mark.priority || (m.priority == mark.priority && nat_lt mark.index k)

-- it comes after the last one that was taken, and is not due
abbrev pub may_take : Option Mark → ℕ → ℕ → Message → Bool
may_take mark now k m =
    option_map_or (λ mark. comes_after mark k m) mark true && not (is_due m.sent m.life now)

-- the greatest priority of messages that may be taken, or this one: the first of
-- them stands at an index
abbrev pub top_from : (ℕ → Message → Bool) → ℕ → ℕ → List Message → ℕ
top_from may k top [] = top
top_from may k top (m ∷ ms) = top_from may (k + 1) (if may k m then max top m.priority else top) ms

-- where the first one stands that has at least this priority
abbrev pub index_from : (ℕ → Message → Bool) → ℕ → ℕ → List Message → Option ℕ
index_from may least k [] = None
index_from may least k (m ∷ ms) =
    if may k m && nat_le least m.priority then Some k else index_from may least (k + 1) ms

-- where the next one stands: the oldest of the greatest priority
abbrev pub next_of : (ℕ → Message → Bool) → List Message → Option ℕ
next_of may ms = index_from may (top_from may 0 0 ms) 0 ms

-- where the next one of a queue stands
abbrev pub next_index : Option Mark → ℕ → List Message → Option ℕ
next_index mark now ms = next_of (may_take mark now) ms

-- the next take of a queue of these messages, where it is transactional
abbrev pub take_by : List Take → ℕ → ℕ → Bool → List Message → Result Take OpFault
take_by takes now number transactional ms = if transactional
    then option_map_or (λ k. Ok (record { queue = number; index = k }))
    (next_index (mark_of takes number ms) now ms) (Err op_fault.QueueEmpty)
    else Err op_fault.NotTransactional

-- the durable messages of a queue
abbrev pub durable : Queue → List Message
durable q = q.lists.durable

-- the next take of a queue
abbrev pub take_from : List Take → ℕ → ℕ → Queue → Result Take OpFault
take_from takes now number q = take_by takes now number q.plan.transactional (durable q)

-- the next take of the queue of a number
abbrev pub take_of : State → List Take → ℕ → ℕ → Result Take OpFault
take_of s takes now number = option_map_or (take_from takes now number)
    (numbered s.places.queues number) (Err op_fault.NoQueue)

-- the next take of the queue with a name
abbrev pub next_take : State → List Take → ℕ → List ℕ → Result Take OpFault
next_take s takes now name =
    option_map_or (take_of s takes now) (queue_named s name) (Err op_fault.NoQueue)

-- the message of a take
abbrev pub message_of_take : State → Take → Option Message
message_of_take s t =
    option_and_then (λ q. slice_get q.lists.durable t.index) (numbered s.places.queues t.queue)

-- a message was taken
abbrev pub with_take : Noted → Take → Message → Noted
with_take n t m = record n {
  takes = n.takes ++ t ∷ [];
  ops = n.ops ++ planned.Take t.queue m.id ∷ [];
  done = n.done ++ done.Took m ∷ [];
}

-- the message of a take is taken
abbrev pub noted_take : State → Noted → Take → Result Noted OpFault
noted_take s n t =
    option_map_or (λ m. Ok (with_take n t m)) (message_of_take s t) (Err op_fault.QueueEmpty)

-- the next message of the queue with a name is taken
abbrev pub try_take : State → ℕ → Noted → List ℕ → Result Noted OpFault
try_take s now n name = next_take s n.takes now name >>= noted_take s n
