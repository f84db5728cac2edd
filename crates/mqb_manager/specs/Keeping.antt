-- What calls leave of a manager's disk, and how one call goes on from another.
use Rattle.std.specs.Prelude.{◌≡◌}
use Rattle.mqb_outside.specs.Disk.{IsSettled, View}
use Rattle.mqb_outside.specs.Images.{Each}
use Rattle.mqb_model.specs.records.Reading.{record_of}
use Rattle.mqb_store.specs.mqb_store_laws.Images.{Opens}
use Rattle.mqb_manager.specs.States.{IsOnDisk, IsUp, ManagerState}

-- What calls leave of a manager's disk, from before the first of them to behind the last.
pub record KeepsDisk (d e : View) (m n : ManagerState) : Type 0 where
  -- none makes a manager up again
  pub up : IsUp n → IsUp m
  pub on : (IsUp m → IsOnDisk d m) → IsUp n → IsOnDisk e n
  pub settled : (IsUp m → IsOnDisk d m) → IsSettled d → IsUp n → IsSettled e
  pub doubt : IsUp m → IsOnDisk d m → IsSettled d → (IsUp n → ⊥)
      → Each e.leaves (Opens n.store.journal n.store.state (record_of n.store.entry))
  pub switch : e.switch ≡ d.switch
