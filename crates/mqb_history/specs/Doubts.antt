-- What a failure leaves, and how it is settled.
use Rattle.std.specs.Prelude.{◌≡◌, None, Option, Some, false, true, ℕ}
use Rattle.mqb_model.specs.managers.Manager.{Down, Manager, is_down}
use Rattle.mqb_model.specs.managers.Outcomes.{Outcome}
use Rattle.mqb_model.specs.managers.Restarts.{restarted}
use Rattle.mqb_network.specs.Choices.{Failure}
use Rattle.mqb_network.specs.Courses.{Course}
use Rattle.mqb_network.specs.Network.{manager_at}
use Rattle.mqb_model.specs.calls.Call.{Answer, Call, outcome_of}
use Rattle.mqb_history.specs.Changes.{Change, Fails, Finds, Restarts, calling, changed}

-- the manager that a change starts again, or is to
abbrev pub started_by : Change → Option ℕ
started_by (Restarts i) = Some i
started_by (Finds i) = Some i
started_by (Fails i) = Some i
started_by _ = None

-- what it keeps, and what is in doubt, stays
pub record IsAsBefore (before now : Manager) : Type 0 where
  pub state : now.state ≡ before.state
  pub condition : now.condition ≡ before.condition

-- A manager that is down stays as it is until it is started again.
abbrev pub StaysDown : Course → Change → Type 0
StaysDown c x = (i : ℕ) → is_down (manager_at c.network i) ≡ true → (started_by x ≡ Some i → ⊥)
    → IsAsBefore (manager_at c.network i) (manager_at (changed x c).network i)

-- Where the disk fails in a call, the manager is down in the state that it had, and
-- the record is in doubt.
pub record IsLeftInDoubt (before now : Manager) (outcome : Outcome Answer) : Type 0 where
  pub state : now.state ≡ before.state
  pub condition : now.condition ≡ Down outcome.entry

-- A failure leaves a doubt, and a start settles it: the record was kept or lost.
pub record IsSettled (c : Course) (i : ℕ) : Type 0 where
  pub fails : (call : Call) (how : Failure)
      → IsLeftInDoubt (manager_at c.network i) (manager_at (calling i call (Some how) c).network i)
      (outcome_of (manager_at c.network i) call)
  pub kept : manager_at (changed (Finds i) c).network i ≡ restarted (manager_at c.network i) true
  pub lost : manager_at (changed (Restarts i) c).network i
      ≡ restarted (manager_at c.network i) false
