-- The line of a step.
use Rattle.std.specs.Prelude.{[], ◌++◌, Err, List, None, Ok, Option, Result, Some, codes, ℕ}
use Rattle.mqb_base.specs.declared.ids.Identity.{Identity}
use Rattle.mqb_base.specs.declared.ids.MessageId.{MessageId}
use Rattle.mqb_model.specs.declared.faults.CommitFault.{CommitFault}
use Rattle.mqb_replies.specs.Replies.{commit_fault_reply}
use Rattle.mqb_replies.specs.declared.faults.AnswerFault.{AnswerFault}
use Rattle.mqb_transcript.specs.Texts.{id_text, printed}
use Rattle.mqb_transcript.specs.declared.replies.Reply.{Reply}
use Rattle.mqb_worker.specs.declared.telling.Step.{Step}
use Rattle.mqb_worker.specs.declared.telling.Step.TheVariants as step

-- what a step answers
abbrev pub Answer : Type 0
Answer = Result Step CommitFault

-- the identifier of a reply, or that there is none
unfoldable pub reply_text : List Identity → Option MessageId → List ℕ
reply_text hosts None = codes "-"
reply_text hosts (Some id) = id_text hosts id

-- the message that was taken, and its reply
unfoldable pub done_line : List Identity → MessageId → Option MessageId → List ℕ
done_line hosts id reply =
    codes "done " ++ id_text hosts id ++ codes " " ++ reply_text hosts reply ++ codes "\n"

unfoldable pub step_line : List Identity → Step → List ℕ
step_line hosts step.Idle = codes "idle\n"
step_line hosts (step.Done id reply) = done_line hosts id reply

-- A refusal, as a script has it. There is no line where the disk failed or memory ran out.
abbrev pub blocked_line : List Identity → Result Reply AnswerFault → List ℕ
blocked_line hosts (Ok reply) = codes "blocked " ++ printed hosts None reply
blocked_line hosts (Err why) = []

abbrev pub turn_line : List Identity → Answer → List ℕ
turn_line hosts (Ok done) = step_line hosts done
turn_line hosts (Err why) = blocked_line hosts (commit_fault_reply why)
