-- No definition of a request answers a fault of the machine, so there is a reply to each; and what is replied to each answer.
use Rattle.std.proofs.Common.{refl}
use Rattle.std.specs.Option.{option_map_or, option_or}
use Rattle.std.specs.Prelude.{[], ◌&&◌, ◌+◌, ◌==◌, ◌∷◌, ◌≡◌, Bool, Err, IfErr, IfSome, IsOk, List, None, Ok, Option, Result, Some, false, if◌then◌else◌, length, nat_le, nat_lt, true, ℕ}
use Rattle.mqb_base.specs.declared.draft.Op.{Op}
use Rattle.mqb_base.specs.declared.ledger.Line.{Line}
use Rattle.mqb_base.specs.declared.message.Lane.{Lane}
use Rattle.mqb_base.specs.declared.message.Lane.TheVariants as lane
use Rattle.mqb_base.specs.declared.message.Message.{Message}
use Rattle.mqb_base.specs.declared.queues.EntryPlace.{EntryPlace}
use Rattle.mqb_fields.specs.Reading.{◌>>=◌}
use Rattle.mqb_queue.specs.Lists.{Lists, count}
use Rattle.mqb_queue.specs.Places.{Queue, lists_at, numbered, place_named}
use Rattle.mqb_queue.specs.declared.first.Position.{Position}
use Rattle.mqb_packet.specs.declared.packet.Headers.TheVariants as headers
use Rattle.mqb_model.specs.calls.Call as calls
use Rattle.mqb_model.specs.calls.Call.{Answer}
use Rattle.mqb_model.specs.calls.Commit.{Trial, at_op, commit_tried, has_too_large, trial_of, try_op, try_ops}
use Rattle.mqb_model.specs.calls.Messages.{plain_message}
use Rattle.mqb_model.specs.calls.Purge.{purge_at, purging}
use Rattle.mqb_model.specs.calls.Send.{message_fault, queue_fault, sending, target_fault}
use Rattle.mqb_model.specs.calls.Take.{first_in, take_at, take_position, taking}
use Rattle.mqb_model.specs.calls.Tick.{ticking}
use Rattle.mqb_model.specs.declared.faults.CommitFault.{CommitFault}
use Rattle.mqb_model.specs.declared.faults.CommitFault.TheVariants as commit_fault
use Rattle.mqb_model.specs.declared.faults.CreateFault.TheVariants as create_fault
use Rattle.mqb_model.specs.declared.faults.OpFault.{OpFault}
use Rattle.mqb_model.specs.declared.faults.OpFault.TheVariants as op_fault
use Rattle.mqb_model.specs.declared.faults.PurgeFault.TheVariants as purge_fault
use Rattle.mqb_model.specs.declared.faults.SendFault.{SendFault}
use Rattle.mqb_model.specs.declared.faults.SendFault.TheVariants as send_fault
use Rattle.mqb_model.specs.declared.faults.StoreFault.TheVariants as store_fault
use Rattle.mqb_model.specs.declared.faults.TakeFault.TheVariants as take_fault
use Rattle.mqb_model.specs.declared.limits.TheConstants.{MAX_NUMBER, MAX_OPS, MAX_QUEUES}
use Rattle.mqb_model.specs.declared.target.Target.{Target}
use Rattle.mqb_model.specs.declared.target.Target.TheVariants.{AtPeer, Here, Nowhere}
use Rattle.mqb_model.specs.managers.Manager.{Manager, is_down}
use Rattle.mqb_model.specs.managers.Outcomes.{answering, recording, unless}
use Rattle.mqb_model.specs.records.Packets.{is_too_large}
use Rattle.mqb_model.specs.records.Peer.{next_queue, queue_there}
use Rattle.mqb_model.specs.records.Record as entry
use Rattle.mqb_model.specs.rules.Takes.{message_at}
use Rattle.mqb_model.specs.state.Resolving.{resolved}
use Rattle.mqb_model.specs.state.State.{State}
use Rattle.mqb_journal.specs.declared.faults.CheckpointFault.TheVariants as base_fault
use Rattle.mqb_manager.specs.mqb_store_laws.Checkpoints.{checkpoint_made, is_large}
use Rattle.mqb_replies.specs.Asked.{CheckpointsAreReplied, RequestsAreReplied}
use Rattle.mqb_replies.specs.Replies.{checkpoint_reply, op_reply}
use Rattle.mqb_replies.specs.Requests.{reply_of}
use Rattle.mqb_replies.specs.declared.faults.AnswerFault.{AnswerFault}
use Rattle.mqb_transcript.specs.declared.replies.Reply.{Reply}
use Rattle.mqb_transcript.specs.declared.replies.Reply.TheVariants as reply

-- Queues and settings.

queue_is_told : (m : Manager) (lines : List Line) (r : entry.Record) (number : ℕ) (down there many : Bool)
    → IsOk (reply_of (calls.Created (unless m (if down then Some create_fault.Down else if there then Some create_fault.QueueThere else if many then Some create_fault.TooManyQueues else None) (recording m r (Ok number))).answer) lines)
queue_is_told m lines r number true there many = refl
queue_is_told m lines r number false true many = refl
queue_is_told m lines r number false false true = refl
queue_is_told m lines r number false false false = refl

setting_is_told : (m : Manager) (lines : List Line) (r : entry.Record) (down : Bool) → IsOk (reply_of (calls.WasSet (unless m (if down then Some store_fault.Down else None) (recording m r (Ok tt))).answer) lines)
setting_is_told m lines r true = refl
setting_is_told m lines r false = refl

-- What is due, purged and taken.

module _ (m : Manager) (now : ℕ) (lines : List Line) where
  tick_is_told : (down : Bool) → IsOk (reply_of (calls.Ticked (unless m (if down then Some store_fault.Down else None) (ticking m now)).answer) lines)
  tick_is_told true = refl
  tick_is_told false = refl

  purging_is_told : (at : EntryPlace) (held : Option Lists) → IsOk (reply_of (calls.Purged (option_map_or (purging m now at) held (answering m (Err purge_fault.NoQueue))).answer) lines)
  purging_is_told at None = refl
  purging_is_told at (Some held) = refl

  purge_is_told : (down : Bool) (named : Option EntryPlace)
      → IsOk (reply_of (calls.Purged (unless m (if down then Some purge_fault.Down else None) (option_map_or (purge_at m now) named (answering m (Err purge_fault.NoQueue)))).answer) lines)
  purge_is_told true named = refl
  purge_is_told false None = refl
  purge_is_told false (Some at) = purging_is_told at (lists_at m.state.places at)

  taking_is_told : (at : EntryPlace) (lane : Lane) (index : ℕ) (message : Option Message)
      → IsOk (reply_of (calls.Took (option_map_or (taking m at now lane index) message (answering m (Err take_fault.QueueEmpty))).answer) lines)
  taking_is_told at lane index None = refl
  taking_is_told at lane.Durable index (Some message) = refl
  taking_is_told at lane.Express index (Some message) = refl

  position_is_told : (at : EntryPlace) (first : Option Position)
      → IsOk (reply_of (calls.Took (option_map_or (take_position m at now) first (answering m (Err take_fault.QueueEmpty))).answer) lines)
  position_is_told at None = refl
  position_is_told at (Some p) = taking_is_told at p.lane p.index (message_at p.lane m.state at p.index)

  take_is_told : (down : Bool) (named : Option EntryPlace)
      → IsOk (reply_of (calls.Took (unless m (if down then Some take_fault.Down else None) (option_map_or (take_at m now) named (answering m (Err take_fault.NoQueue)))).answer) lines)
  take_is_told true named = refl
  take_is_told false None = refl
  take_is_told false (Some at) = position_is_told at (first_in m.state at now)

-- Sends.

abbrev TellsSend : List Line → SendFault → Type 0
TellsSend lines why = IsOk (reply_of (calls.Sent (Err why)) lines)

queue_fault_is_told : (lines : List Line) (transactional full : Bool)
    → IfSome (if transactional then Some send_fault.Transactional else if full then Some send_fault.QueueFull else None) (TellsSend lines)
queue_fault_is_told lines true full = refl
queue_fault_is_told lines false true = refl
queue_fault_is_told lines false false = tt

queue_found : (lines : List Line) (q : Option Queue) → IfSome (option_map_or queue_fault q (Some send_fault.NoQueue)) (TellsSend lines)
queue_found lines None = refl
queue_found lines (Some q) = queue_fault_is_told lines q.plan.transactional (nat_le q.plan.quota (count q.lists))

target_is_told : (lines : List Line) (s : State) (t : Target) → IfSome (target_fault s t) (TellsSend lines)
target_is_told lines s (AtPeer k) = tt
target_is_told lines s Nowhere = refl
target_is_told lines s (Here None) = refl
target_is_told lines s (Here (Some number)) = queue_found lines (numbered s.places.queues number)

message_is_told : (lines : List Line) (spent large : Bool)
    → IfSome (if spent then Some send_fault.NumbersSpent else if large then Some send_fault.TooLarge else None) (TellsSend lines)
message_is_told lines true large = refl
message_is_told lines false true = refl
message_is_told lines false false = tt

send_is_told : (m : Manager) (lines : List Line) (recoverable : Bool) (message : Message) (now : ℕ) (down : Bool) (target whole : Option SendFault)
    → IfSome target (TellsSend lines) → IfSome whole (TellsSend lines)
    → IsOk (reply_of (calls.Sent (unless m (if down then Some send_fault.Down else option_or target whole) (sending m recoverable message now)).answer) lines)
send_is_told m lines recoverable message now true target whole at fits = refl
send_is_told m lines recoverable message now false (Some why) whole at fits = at
send_is_told m lines recoverable message now false None (Some why) at fits = fits
send_is_told m lines true message now false None None at fits = refl
send_is_told m lines false message now false None None at fits = refl

-- Transactions.

abbrev TellsCommit : List Line → CommitFault → Type 0
TellsCommit lines why = IsOk (reply_of (calls.Committed (Err why)) lines)

tried_is_told : (lines : List Line) (now index : ℕ) (t : Trial) (ops : List Op) → IfErr (try_ops now index t ops) (TellsCommit lines)
tried_is_told lines now index t [] = tt
tried_is_told lines now index t (op ∷ ops) = at (try_op t now op) (λ next. tried_is_told lines now (index + 1) next ops)
  where
    at : (r : Result Trial OpFault) → ((next : Trial) → IfErr (try_ops now (index + 1) next ops) (TellsCommit lines))
        → IfErr (at_op index r >>= λ next. try_ops now (index + 1) next ops) (TellsCommit lines)
    at (Ok next) more = more next
    at (Err why) more = refl

whole_is_told : (m : Manager) (lines : List Line) (now : ℕ) (t : Trial) (spent large : Bool)
    → IsOk (reply_of (calls.Committed (unless m (if spent then Some commit_fault.NumbersSpent else if large then Some commit_fault.TooLarge else None) (recording m (entry.Commit now t.ops) (Ok t.done))).answer) lines)
whole_is_told m lines now t true large = refl
whole_is_told m lines now t false true = refl
whole_is_told m lines now t false false = refl

made_is_told : (m : Manager) (lines : List Line) (now : ℕ) (r : Result Trial CommitFault) → IfErr r (TellsCommit lines) → IsOk (reply_of (calls.Committed (commit_tried m now r).answer) lines)
made_is_told m lines now (Err why) told = told
made_is_told m lines now (Ok t) told = whole_is_told m lines now t (nat_lt (MAX_NUMBER + 1) t.sending.next_number) (has_too_large t.ops)

commit_is_told : (m : Manager) (lines : List Line) (now : ℕ) (r : Result Trial CommitFault) → IfErr r (TellsCommit lines) → (down none many : Bool)
    → IsOk (reply_of (calls.Committed (unless m (if down then Some commit_fault.Down else if none then Some commit_fault.NoOps else if many then Some commit_fault.TooManyOps else None) (commit_tried m now r)).answer) lines)
commit_is_told m lines now r told true none many = refl
commit_is_told m lines now r told false true many = refl
commit_is_told m lines now r told false false true = refl
commit_is_told m lines now r told false false false = made_is_told m lines now r told

-- Each request.

pub requests_are_replied : RequestsAreReplied
requests_are_replied m (calls.CreateQueue plan) lines =
    queue_is_told m lines (entry.CreateQueue (next_queue m.state) plan) (next_queue m.state) (is_down m) (queue_there m.state plan) (nat_le MAX_QUEUES (length m.state.places.queues))
requests_are_replied m (calls.Set setting) lines = setting_is_told m lines (entry.Set setting) (is_down m)
requests_are_replied m (calls.Commit now ops) lines =
    let r = try_ops now 0 (trial_of m.state) ops in
    commit_is_told m lines now r (tried_is_told lines now 0 (trial_of m.state) ops) (is_down m) (length ops == 0) (nat_lt MAX_OPS (length ops))
requests_are_replied m (calls.Send now recoverable draft) lines =
    let message = plain_message m.state recoverable now draft in
    let target = resolved m.state message.destination in
    send_is_told m lines recoverable message now (is_down m) (target_fault m.state target) (message_fault m.state recoverable message)
    (target_is_told lines m.state target)
    (message_is_told lines (recoverable && nat_lt MAX_NUMBER m.state.next_number) (is_too_large headers.Session message))
requests_are_replied m (calls.Take now place) lines = take_is_told m now lines (is_down m) (place_named m.state.places.queues place)
requests_are_replied m (calls.Purge now place) lines = purge_is_told m now lines (is_down m) (place_named m.state.places.queues place)
requests_are_replied m (calls.Tick now) lines = tick_is_told m now lines (is_down m)

-- A checkpoint.

pub checkpoints_are_replied : CheckpointsAreReplied
checkpoints_are_replied m far = at (is_down m) far (is_large m.state)
  where
    at : (down far large : Bool)
        → IsOk (checkpoint_reply (unless m (if down then Some base_fault.Down else if far then Some base_fault.TooFar else if large then Some base_fault.TooLarge else None) (checkpoint_made m)).answer)
    at true far large = refl
    at false true large = refl
    at false false true = refl
    at false false false = refl

-- Each answer.

-- a reply tells how a disk failed, what was found on it, or that it was too far on
abbrev pub tells_of_disk : Reply → Bool
tells_of_disk reply.Stopped = true
tells_of_disk reply.Failed = true
tells_of_disk (reply.Flowed arrivals) = true
tells_of_disk (reply.OpenedKept lines) = true
tells_of_disk reply.OpenedLost = true
tells_of_disk reply.TooFar = true
tells_of_disk _ = false

-- two replies, the latter of which tells of no disk, or the same fault
abbrev pub AreAlike : Result Reply AnswerFault → Result Reply AnswerFault → Type 0
AreAlike (Ok one) (Ok other) = tells_of_disk other ≡ false
AreAlike (Err why) (Err other) = why ≡ other
AreAlike _ _ = ⊥

op_alike : (index : ℕ) (why : OpFault) → tells_of_disk (op_reply index why) ≡ false
op_alike index op_fault.NoQueue = refl
op_alike index why = refl

-- so is what is replied, whatever lines that tells
pub alike : (a : Answer) (lines : List Line) → AreAlike (reply_of a []) (reply_of a lines)
alike (calls.Created (Err create_fault.Down)) lines = refl
alike (calls.WasSet (Err store_fault.Down)) lines = refl
alike (calls.Committed (Err (commit_fault.AtOp index why))) lines = op_alike index why
alike (calls.Sent (Err send_fault.Down)) lines = refl
alike (calls.Took (Err take_fault.Down)) lines = refl
alike (calls.Purged (Err purge_fault.Down)) lines = refl
alike (calls.Ticked (Err store_fault.Down)) lines = refl
alike a lines = refl
