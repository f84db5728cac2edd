-- What is told of what a manager's calls answer.
use Rattle.std.specs.List.{filter_map}
use Rattle.std.specs.Prelude.{[], ◌∷◌, Bool, Err, List, None, Ok, Option, Result, Some}
use Rattle.std.specs.Prelude.{if◌then◌else◌, ℕ}
use Rattle.mqb_answers.specs.declared.told.CallEnd.{CallEnd}
use Rattle.mqb_answers.specs.declared.told.CallEnd.TheVariants.{Done, Refused}
use Rattle.mqb_answers.specs.declared.told.Said.{Said}
use Rattle.mqb_answers.specs.declared.told.Said.TheVariants as said
use Rattle.mqb_answers.specs.declared.told.Taken.{Taken}
use Rattle.mqb_answers.specs.declared.told.Taken.TheVariants as taken
use Rattle.mqb_answers.specs.declared.told.Told.{Told}
use Rattle.mqb_base.specs.declared.ledger.Line.{Line}
use Rattle.mqb_base.specs.declared.message.Message.{Message}
use Rattle.mqb_model.specs.calls.Call.{Answer}
use Rattle.mqb_model.specs.calls.Call as answer
use Rattle.mqb_model.specs.declared.answers.Done as done
use Rattle.mqb_model.specs.declared.answers.Done.TheVariants as done_as
use Rattle.mqb_model.specs.declared.faults.AddPeerFault.{AddPeerFault}
use Rattle.mqb_model.specs.declared.faults.AddPeerFault.TheVariants as fault
use Rattle.mqb_replies.specs.Requests.{is_done, reply_of}
use Rattle.mqb_replies.specs.declared.faults.AnswerFault.{AnswerFault}
use Rattle.mqb_replies.specs.declared.faults.AnswerFault.TheVariants.{DiskFault, Memory}
use Rattle.mqb_transcript.specs.declared.replies.Reply.{Reply}
use Rattle.mqb_transcript.specs.declared.replies.Reply.TheVariants as reply

-- What was taken.

-- the message that an op took
abbrev pub took : done.Done → Option Message
took (done_as.Sent id sequence number) = None
took (done_as.Put id) = None
took (done_as.Took message) = Some message

-- the messages that were taken, in order
abbrev pub messages_of : Taken → List Message
messages_of taken.Nothing = []
messages_of (taken.One message) = message ∷ []
messages_of (taken.ByOps ops) = filter_map took ops

abbrev pub taken_by : Answer → Taken
taken_by (answer.Took (Ok message)) = taken.One message
taken_by (answer.Committed (Ok ops)) = taken.ByOps ops
taken_by _ = taken.Nothing

-- What is told.

-- it was refused exactly where the manager answers why
abbrev pub end_by : (done : Bool) → CallEnd
end_by done = if done then Done else Refused

-- a reply is told, with what was taken
abbrev pub told_reply : CallEnd → Taken → Result Reply AnswerFault → Result Told AnswerFault
told_reply end taken (Ok r) = Ok (record { said = said.Reply r; end = end; taken = taken })
told_reply end taken (Err why) = Err why

-- a line is told, and nothing was taken
abbrev pub told_line : CallEnd → Said → Result Told AnswerFault
told_line end line = Ok (record { said = line; end = end; taken = taken.Nothing })

abbrev pub peer_fault_told : AddPeerFault → Result Told AnswerFault
peer_fault_told fault.Down = told_line Refused (said.Reply reply.Down)
peer_fault_told fault.PeerThere = told_line Refused said.PeerThere
peer_fault_told fault.TooManyPeers = told_line Refused said.TooManyPeers
peer_fault_told fault.Memory = Err Memory
peer_fault_told fault.DiskFault = Err DiskFault

-- the peer's index is not told
abbrev pub peer_told : Result ℕ AddPeerFault → Result Told AnswerFault
peer_told (Ok index) = told_line Done (said.Reply reply.Done)
peer_told (Err why) = peer_fault_told why

-- a request is told as a script has it
abbrev pub answer_told : Answer → List Line → Result Told AnswerFault
answer_told a lines = told_reply (end_by (is_done a)) (taken_by a) (reply_of a lines)
