-- What a manager is asked for, what it answers, and what is replied to that.
use Rattle.std.specs.Prelude.{◌≡◌, Bool, Err, List, Ok, Result, false, is_ok, true}
use Rattle.mqb_base.specs.declared.ledger.Line.{Line}
use Rattle.mqb_model.specs.calls.Call.{Answer, Request}
use Rattle.mqb_model.specs.calls.Call as call
use Rattle.mqb_model.specs.records.Applying.{is_setting}
use Rattle.mqb_model.specs.records.Record.{Roll}
use Rattle.mqb_replies.specs.Replies.{commit_fault_reply, create_fault_reply, purge_fault_reply}
use Rattle.mqb_replies.specs.Replies.{send_fault_reply, store_fault_reply, take_fault_reply}
use Rattle.mqb_replies.specs.declared.faults.AnswerFault.{AnswerFault}
use Rattle.mqb_replies.specs.declared.faults.AnswerFault.TheVariants.{Memory}
use Rattle.mqb_replies.specs.declared.requests.Answer as code_answer
use Rattle.mqb_replies.specs.declared.requests.Answer.TheVariants as answer
use Rattle.mqb_replies.specs.declared.requests.Request as code_request
use Rattle.mqb_replies.specs.declared.requests.Request.TheVariants as request
use Rattle.mqb_transcript.specs.declared.replies.Reply.{Reply}
use Rattle.mqb_transcript.specs.declared.replies.Reply.TheVariants as reply

-- the request that is lent
abbrev pub seen_request : code_request.Request → Request
seen_request (request.CreateQueue plan) = call.CreateQueue plan.now
seen_request (request.SetRoll count) = call.Set (Roll count)
seen_request (request.Commit now ops) = call.Commit now ops.now
seen_request (request.Send now recoverable draft) = call.Send now recoverable draft.now
seen_request (request.Take now place) = call.Take now place.now
seen_request (request.Purge now place) = call.Purge now place.now
seen_request (request.Tick now) = call.Tick now

-- what one keeps that its types do not say
abbrev pub IsFormed : Request → Type 0
IsFormed (call.Set setting) = is_setting setting ≡ true
IsFormed _ = Unit {0}

abbrev pub seen_answer : code_answer.Answer → Answer
seen_answer (answer.Created given) = call.Created given
seen_answer (answer.WasSet given) = call.WasSet given
seen_answer (answer.Committed given) = call.Committed given
seen_answer (answer.Sent given) = call.Sent given
seen_answer (answer.Took given) = call.Took given
seen_answer (answer.Purged given) = call.Purged given
seen_answer (answer.Ticked given) = call.Ticked given

-- the manager did what it was asked for, and did not refuse it
abbrev pub is_done : Answer → Bool
is_done (call.Created given) = is_ok given
is_done (call.WasSet given) = is_ok given
is_done (call.Committed given) = is_ok given
is_done (call.Sent given) = is_ok given
is_done (call.Took given) = is_ok given
is_done (call.Purged given) = is_ok given
is_done (call.Ticked given) = is_ok given
is_done _ = false

-- What is replied to what a request is answered, or why nothing is. The lines are those of the
-- request's record. Of a queue that was made its number is not told, of a transaction what became
-- of each op, of a message that was taken all but its identifier, and of a tick the durable
-- messages. A call that has to do with packets has a reply of its own.
abbrev pub reply_of : Answer → List Line → Result Reply AnswerFault
reply_of (call.Created (Ok number)) lines = Ok reply.Done
reply_of (call.Created (Err fault)) lines = create_fault_reply fault
reply_of (call.WasSet (Ok done)) lines = Ok reply.Done
reply_of (call.WasSet (Err fault)) lines = store_fault_reply fault
reply_of (call.Committed (Ok done)) lines = Ok (reply.Committed lines)
reply_of (call.Committed (Err fault)) lines = commit_fault_reply fault
reply_of (call.Sent (Ok id)) lines = Ok (reply.Sent id lines)
reply_of (call.Sent (Err fault)) lines = send_fault_reply fault
reply_of (call.Took (Ok message)) lines = Ok (reply.Took message.id lines)
reply_of (call.Took (Err fault)) lines = take_fault_reply fault
reply_of (call.Purged (Ok count)) lines = Ok (reply.Purged count lines)
reply_of (call.Purged (Err fault)) lines = purge_fault_reply fault
reply_of (call.Ticked (Ok left)) lines = Ok (reply.Ticked left.express lines)
reply_of (call.Ticked (Err fault)) lines = store_fault_reply fault
reply_of _ lines = Err Memory
