-- The call commit: its ops are tried one after another, and then one record is written.
use Rattle.std.specs.List.{list_any}
use Rattle.std.specs.Option.{option_map_or}
use Rattle.std.specs.Prelude.{[], ◌++◌, ◌+◌, ◌==◌, ◌||◌, ◌∷◌, Bool, Err, List, None, Ok, Option}
use Rattle.std.specs.Prelude.{Result, Some, if◌then◌else◌, length, nat_le, nat_lt, not}
use Rattle.std.specs.Prelude.{slice_get, ℕ}
use Rattle.mqb_base.specs.declared.draft.Op.{Op}
use Rattle.mqb_base.specs.declared.draft.Op.TheVariants as asked
use Rattle.mqb_base.specs.declared.message.Lane.TheVariants as lane
use Rattle.mqb_base.specs.declared.message.Message.{Message}
use Rattle.mqb_base.specs.declared.queues.EntryPlace.TheVariants as place
use Rattle.mqb_packet.specs.mqb_fields.Reading.{◌>>=◌}
use Rattle.mqb_orders.specs.Rows.{Row}
use Rattle.mqb_packet.specs.declared.packet.Headers.TheVariants as headers
use Rattle.mqb_queue.specs.First.{first_index, is_free}
use Rattle.mqb_queue.specs.Lists.{count}
use Rattle.mqb_queue.specs.Places.{Queue, numbered}
use Rattle.mqb_model.specs.calls.Messages.{message_for}
use Rattle.mqb_model.specs.declared.answers.Done.{Done}
use Rattle.mqb_model.specs.declared.answers.Done.TheVariants as done
use Rattle.mqb_model.specs.declared.faults.CommitFault.{CommitFault}
use Rattle.mqb_model.specs.declared.faults.CommitFault.TheVariants as fault
use Rattle.mqb_model.specs.declared.faults.OpFault.{OpFault}
use Rattle.mqb_model.specs.declared.faults.OpFault.TheVariants as op_fault
use Rattle.mqb_model.specs.declared.limits.TheConstants.{MAX_NUMBER, MAX_OPS, MAX_RECORD}
use Rattle.mqb_model.specs.declared.target.Target.{Target}
use Rattle.mqb_model.specs.declared.target.Target.TheVariants.{AtPeer, Here, Nowhere}
use Rattle.mqb_model.specs.managers.Manager.{Manager, is_down}
use Rattle.mqb_model.specs.managers.Outcomes.{Outcome, answering, recording, unless}
use Rattle.mqb_model.specs.records.Commit.{sends_of}
use Rattle.mqb_model.specs.records.Counting.{commit_size}
use Rattle.mqb_model.specs.records.Packets.{is_too_large, packet_to}
use Rattle.mqb_model.specs.records.Record.{RecordOp}
use Rattle.mqb_model.specs.records.Record as entry
use Rattle.mqb_model.specs.rules.Numbers.{numbers_taken}
use Rattle.mqb_model.specs.rules.Sequences.{join, may_join, sequence_for}
use Rattle.mqb_model.specs.state.Places.{put_at, without_at}
use Rattle.mqb_model.specs.state.Resolving.{queue_named, resolved}
use Rattle.mqb_model.specs.state.State.{State}

-- The ops that were tried so far. A take sees the takes before it and no send, and a send
-- the sends before it and no take, so there are two states; and what the record and the
-- answer have of the ops.
pub record Trial : Type 0 where
  pub taking : State
  pub sending : State
  pub ops : List RecordOp
  pub done : List Done

-- nothing was tried yet
abbrev pub trial_of : State → Trial
trial_of s = record { taking = s; sending = s; ops = []; done = [] }

-- Takes.

-- the message of a queue at an index was taken
abbrev pub with_take : Trial → ℕ → ℕ → Message → Trial
with_take t number k m = record t {
  taking = without_at lane.Durable t.taking (place.Queue number) k;
  ops = t.ops ++ entry.Take number m.id ∷ [];
  done = t.done ++ done.Took m ∷ [];
}

-- the index of the first message of a queue that is not due
abbrev pub first_free : ℕ → ℕ → Queue → Option ℕ
first_free number now q = first_index (is_free (place.Queue number) now) q.lists.durable

-- that message is taken
abbrev pub take_first : Trial → ℕ → ℕ → Queue → Result Trial OpFault
take_first t now number q = option_map_or (λ k. option_map_or (λ m. Ok (with_take t number k m))
    (slice_get q.lists.durable k) (Err op_fault.QueueEmpty)) (first_free number now q)
    (Err op_fault.QueueEmpty)

-- a transaction takes from a transactional queue
abbrev pub take_from : Trial → ℕ → ℕ → Queue → Result Trial OpFault
take_from t now number q =
    if q.plan.transactional then take_first t now number q else Err op_fault.NotTransactional

-- the first message of the queue of a number is taken
abbrev pub take_of : Trial → ℕ → ℕ → Result Trial OpFault
take_of t now number = option_map_or (take_from t now number)
    (numbered t.taking.places.queues number) (Err op_fault.NoQueue)

-- Sends.

-- a message was sent, and took a number
abbrev pub with_send : Trial → Target → Message → State → Done → Trial
with_send t target m after done = record t {
  sending = numbers_taken after 1;
  ops = t.ops ++ entry.Send (packet_to t.sending target m) ∷ [];
  done = t.done ++ done ∷ [];
}

-- a message was put into a queue here
abbrev pub with_put : Trial → ℕ → Message → Trial
with_put t number m =
    with_send t (Here (Some number)) m (put_at t.sending (place.Queue number) m) (done.Put m.id)

-- a transactional queue takes it while its length, with the sends before it, is below its quota
abbrev pub send_into : Trial → Message → ℕ → Queue → Result Trial OpFault
send_into t m number q = if not q.plan.transactional then Err op_fault.NotTransactional
    else if nat_le q.plan.quota (count q.lists) then Err op_fault.QueueFull
    else Ok (with_put t number m)

-- a message joined a sequence
abbrev pub with_joined : Trial → ℕ → Message → ℕ → Row → Trial
with_joined t now m k row = with_send t (AtPeer k) m (join t.sending k now m)
    (done.Sent m.id row.sequence (row.committed + 1))

-- it joins the one in use, or a new one
abbrev pub send_to_peer : Trial → ℕ → Message → ℕ → Result Trial OpFault
send_to_peer t now m k = if may_join t.sending k m.destination
    then Ok (with_joined t now m k (sequence_for t.sending k m.destination now))
    else Err op_fault.SequenceSpent

-- a message goes to its target, or why it does not
abbrev pub send_to : Trial → ℕ → Message → Target → Result Trial OpFault
send_to t now m (Here None) = Err op_fault.NoQueue
send_to t now m (Here (Some number)) = option_map_or (send_into t m number)
    (numbered t.sending.places.queues number) (Err op_fault.NoQueue)
send_to t now m (AtPeer k) = send_to_peer t now m k
send_to t now m Nowhere = Err op_fault.UnknownPeer

-- a message of a sender is sent
abbrev pub send_of : Trial → ℕ → Message → Result Trial OpFault
send_of t now m = send_to t now m (resolved t.sending m.destination)

-- The whole transaction.

-- one op more is tried
abbrev pub try_op : Trial → ℕ → Op → Result Trial OpFault
try_op t now (asked.Take name) =
    option_map_or (take_of t now) (queue_named t.taking name) (Err op_fault.NoQueue)
try_op t now (asked.Send p) = send_of t now (message_for t.sending now p)

-- a fault stands at the index of its op
abbrev pub at_op : ℕ → Result Trial OpFault → Result Trial CommitFault
at_op index (Ok t) = Ok t
at_op index (Err why) = Err (fault.AtOp index why)

-- ops from an index on, one after another, up to the first that fails
abbrev pub try_ops : ℕ → ℕ → Trial → List Op → Result Trial CommitFault
try_ops now index t [] = Ok t
try_ops now index t (op ∷ ops) =
    at_op index (try_op t now op) >>= λ next. try_ops now (index + 1) next ops

-- why ops are not tried
abbrev pub ops_refusal : Manager → List Op → Option CommitFault
ops_refusal m ops = if is_down m then Some fault.Down
    else if length ops == 0 then Some fault.NoOps
    else if nat_lt MAX_OPS (length ops) then Some fault.TooManyOps
    else None

-- a packet or the whole record is longer than it can be
abbrev pub has_too_large : List RecordOp → Bool
has_too_large ops = list_any (is_too_large headers.TxAndSession) (sends_of ops)
    || nat_lt MAX_RECORD (commit_size ops)

-- why ops that were tried make no transaction
abbrev pub whole_refusal : Trial → Option CommitFault
whole_refusal t = if nat_lt (MAX_NUMBER + 1) t.sending.next_number then Some fault.NumbersSpent
    else if has_too_large t.ops then Some fault.TooLarge
    else None

-- a transaction whose ops passed is written
abbrev pub commit_tried : Manager → ℕ → Result Trial CommitFault
    → Outcome (Result (List Done) CommitFault)
commit_tried m now (Err why) = answering m (Err why)
commit_tried m now (Ok t) =
    unless m (whole_refusal t) (recording m (entry.Commit now t.ops) (Ok t.done))

-- it answers what became of each op
abbrev pub commit : Manager → List Op → ℕ → Outcome (Result (List Done) CommitFault)
commit m ops now =
    unless m (ops_refusal m ops) (commit_tried m now (try_ops now 0 (trial_of m.state) ops))
