-- What a step of a worker comes to.
use Rattle.std.specs.Option.{option_map_or}
use Rattle.std.specs.Prelude.{◌≡◌, Err, IsSomeAnd, List, None, Ok, Option, Result, Some}
use Rattle.std.specs.Prelude.{if◌then◌else◌, option_and_then, option_map, slice_get, true, ℕ}
use Rattle.mqb_base.specs.declared.ids.MessageId.{MessageId}
use Rattle.mqb_model.specs.calls.Commit.{commit}
use Rattle.mqb_model.specs.declared.answers.Done.{Done}
use Rattle.mqb_model.specs.declared.answers.Done.TheVariants as done
use Rattle.mqb_model.specs.declared.faults.CommitFault.{CommitFault}
use Rattle.mqb_model.specs.declared.faults.CommitFault.TheVariants as fault
use Rattle.mqb_model.specs.managers.Manager.{Manager, is_down}
use Rattle.mqb_model.specs.managers.Outcomes.{Outcome, answering}
use Rattle.mqb_model.specs.rules.Numbers.{own_id}
use Rattle.mqb_model.specs.state.State.{State}
use Rattle.mqb_replies.specs.Asked.{told_as}
use Rattle.mqb_worker.specs.Work.{is_idle, waiting_in, work}
use Rattle.mqb_worker.specs.declared.telling.Step.{Step}
use Rattle.mqb_worker.specs.declared.telling.Step.TheVariants as step

-- What is told of a transaction.

-- the message that an op took
abbrev pub taken_by : Done → Option MessageId
taken_by (done.Took m) = Some m.id
taken_by _ = None

-- the message that an op sent
abbrev pub sent_by : Done → Option MessageId
sent_by (done.Sent id sequence number) = Some id
sent_by (done.Put id) = Some id
sent_by (done.Took m) = None

-- the message that the first op took
abbrev pub taken_first : List Done → Option MessageId
taken_first ops = option_and_then taken_by (slice_get ops 0)

-- the message that the second op sent, where there is one
abbrev pub sent_second : List Done → Option MessageId
sent_second ops = option_and_then sent_by (slice_get ops 1)

-- what became of its ops, as a step tells it
abbrev pub step_of : List Done → Step
step_of ops = option_map_or (λ id. step.Done id (sent_second ops)) (taken_first ops) step.Idle

abbrev pub step_answer : Result (List Done) CommitFault → Result Step CommitFault
step_answer (Ok ops) = Ok (step_of ops)
step_answer (Err why) = Err why

-- a transaction, as a step tells it
abbrev pub told_step : Outcome (Result (List Done) CommitFault) → Outcome (Result Step CommitFault)
told_step o = told_as o (step_answer o.answer)

-- The step.

-- The work is done in one transaction, unless the manager is down, or nothing waits.
abbrev pub stepped : Manager → (name : List ℕ) → (List ℕ → List ℕ) → (now : ℕ)
    → Outcome (Result Step CommitFault)
stepped m name h now = if is_down m then answering m (Err fault.Down)
    else if is_idle m.state name now then answering m (Ok step.Idle)
    else told_step (commit m (work m.state name h now) now)

-- What a step answers that is not refused: nothing waits; or the message that waited, and the
-- manager's next number as its reply's, where it asks for one.
abbrev pub TellsWork : State → (name : List ℕ) → (now : ℕ) → Step → Type 0
TellsWork s name now step.Idle = is_idle s name now ≡ true
TellsWork s name now (step.Done id reply) = IsSomeAnd (waiting_in s name now) (λ m.
    (id ≡ m.id) × (reply ≡ option_map (λ to. own_id s s.next_number) m.response))
