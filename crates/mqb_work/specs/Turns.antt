-- Steps, one after another, and what is written of each.
use Rattle.std.specs.List.{flat_map}
use Rattle.std.specs.Prelude.{[], ◌∷◌, ◌≡◌, Err, List, Ok, Option, Result, ℕ}
use Rattle.mqb_base.specs.declared.ids.Identity.{Identity}
use Rattle.mqb_commands.specs.Opened.{IsMoment}
use Rattle.mqb_commands.specs.Outputs.{TookFront}
use Rattle.mqb_manager.specs.Calls.{Ends}
use Rattle.mqb_manager.specs.States.{ManagerState, manager_of}
use Rattle.mqb_model.specs.declared.faults.CommitFault.TheVariants as fault
use Rattle.mqb_outside.specs.Told.{Took}
use Rattle.mqb_worker.specs.Steps.{stepped}
use Rattle.mqb_worker.specs.Work.{prefixed}
use Rattle.mqb_worker.specs.declared.telling.Step.TheVariants as step
use Rattle.mqb_work.specs.Lines.{Answer, turn_line}
use Rattle.mqb_work.specs.declared.status.WorkStatus.{WorkStatus}
use Rattle.mqb_work.specs.declared.status.WorkStatus.TheVariants as status
use Rattle.mqb_work.specs.declared.words.Job.{Job}

-- a step: its moment, what it answered, and the manager behind it
pub record Turn : Type 0 where
  pub now : ℕ
  pub answer : Answer
  pub after : ManagerState

-- It was made at a moment of the clock, and ended as its definition does, or memory ran out, or the
-- disk failed under its record.
pub record IsTurn (job : Job) (steady : Option ℕ) (m : ManagerState) (t : Turn) : Type 0 where
  pub moment : IsMoment steady t.now
  pub ends : Ends fault.Memory fault.DiskFault m t.after
      (stepped (manager_of m) job.queue (prefixed job.prefix) t.now) t.answer

-- a step from one manager to another was answered so
pub record IsTurnTo (job : Job) (steady : Option ℕ) (m n : ManagerState)
    (answer : Answer) : Type 0 where
  pub turn : Turn
  pub is : IsTurn job steady m turn
  pub left : turn.after ≡ n
  pub answered : turn.answer ≡ answer

-- steps one after another, the first by the manager m, and each other by the one that the step
-- before it left, up to n
abbrev pub Turns : Job → Option ℕ → ManagerState → List Turn → ManagerState → Type 0
Turns job steady m [] n = n ≡ m
Turns job steady m (t ∷ turns) n = IsTurn job steady m t × Turns job steady t.after turns n

-- their lines
abbrev pub lines_of : List Identity → List Turn → List ℕ
lines_of hosts turns = flat_map (λ t. turn_line hosts t.answer) turns

-- How the program ends behind a step. It goes on behind one that took a message.
abbrev pub end_by : Answer → Result (Unit {0}) WorkStatus
end_by (Ok (step.Done id reply)) = Ok tt
end_by (Ok step.Idle) = Err status.Done
end_by (Err fault.DiskFault) = Err status.DiskFault
end_by (Err fault.Memory) = Err status.Memory
end_by (Err _) = Err status.Refused

-- The line of a step was written, and the program goes on or ends as the step says; or the output
-- failed within the line, or memory ran out and nothing was written.
abbrev pub TellsTurn : List Identity → Answer → (before after : Option (List ℕ))
    → Result (Unit {0}) WorkStatus → Type 0
TellsTurn hosts answer before after (Err status.WriteFault) =
    TookFront before after (turn_line hosts answer)
TellsTurn hosts answer before after (Err status.Memory) = after ≡ before
TellsTurn hosts answer before after r =
    (r ≡ end_by answer) × Took before after (turn_line hosts answer)
