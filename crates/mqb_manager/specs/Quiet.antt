-- A call that calls no disk.
use Rattle.std.specs.Prelude.{◌≡◌, ◌⊎◌, Err, None, Result}
use Rattle.mqb_model.specs.managers.Outcomes.{Outcome, succeeded}
use Rattle.mqb_manager.specs.States.{ManagerState, manager_of}

-- A call that leaves the store alone ends as its definition does, or it wants memory
-- and leaves everything.
pub record IsQuiet {V E : Type 0} (memory : E) (m n : ManagerState) (o : Outcome (Result V E))
    (r : Result V E) : Type 0 where
  pub store : n.store ≡ m.store
  pub entry : o.entry ≡ None
  pub ends : ((r ≡ o.answer) × (manager_of n ≡ succeeded (manager_of m) o))
      ⊎ ((r ≡ Err memory) × (n ≡ m))
