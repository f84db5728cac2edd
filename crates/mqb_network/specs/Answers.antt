-- What is answered to an event, and the course after it; and the event that is a
-- call of one manager.
use Rattle.std.specs.Option.{option_map_or}
use Rattle.std.specs.Prelude.{List, ℕ}
use Rattle.mqb_base.specs.declared.ledger.Line.{Line}
use Rattle.mqb_model.specs.calls.Call.{Request, requested}
use Rattle.mqb_model.specs.managers.Outcomes.{Outcome, lines_after}
use Rattle.mqb_network.specs.Choices.{Choice, failure_in}
use Rattle.mqb_network.specs.Courses.{Course, called}
use Rattle.mqb_network.specs.Network.{manager_at}
use Rattle.mqb_network.specs.Replies as reply

-- the reply, and the course after it
pub record Answer : Type 0 where
  pub reply : reply.Reply
  pub after : Course

-- nothing changes
abbrev pub only : Course → reply.Reply → Answer
only c answer = record { reply = answer; after = c }

-- the lines of a call's record
abbrev pub lines_at : {A : Type 0} → ℕ → Outcome A → Course → List Line
lines_at i outcome c = lines_after (manager_at c.network i) outcome

-- the reply to a manager's call: that its disk failed, or what it answers and
-- the lines of its record
abbrev pub reply_to : {A : Type 0} → ℕ → Outcome A → Choice → (A → List Line → reply.Reply) → Course
    → reply.Reply
reply_to i outcome choice says c = option_map_or reply.DiskFailed (failure_in choice outcome)
    (says outcome.answer (lines_at i outcome c))

-- an event that is one call
abbrev pub call : {A : Type 0} → ℕ → Outcome A → Choice → (A → List Line → reply.Reply) → Course
    → Answer
call i outcome choice says c =
    record { reply = reply_to i outcome choice says c; after = called i outcome choice c }

-- a manager is asked for something
abbrev pub asked_by : ℕ → Request → Choice → Course → Answer
asked_by i request choice c =
    call i (requested (manager_at c.network i) request) choice reply.Called c
