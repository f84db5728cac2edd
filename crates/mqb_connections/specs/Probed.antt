-- How `probe` ends: one connection over the input and the output.
use Rattle.std.specs.Prelude.{◌≡◌, ◌≢◌, ◌⊎◌, Err, List, Option, ℕ}
use Rattle.mqb_commands.specs.Opened.{IsMoment, IsNotOpened, OpensAs}
use Rattle.mqb_outside.specs.Disk.{View}
use Rattle.mqb_outside.specs.Images.{Each}
use Rattle.mqb_journal.specs.Causes.{FaultsAsSaid}
use Rattle.mqb_manager.specs.Keeping.{KeepsDisk}
use Rattle.mqb_manager.specs.States.{IsUp, ManagerState}
use Rattle.mqb_serve.specs.Talking.{stored_of}
use Rattle.mqb_serving.specs.declared.purpose.Purpose.TheVariants as purpose
use Rattle.mqb_outside.specs.Faults.{Rose}
use Rattle.mqb_serving.specs.Serving.{Answer, Serves, ServesWhole, is_disk_fault}
use Rattle.mqb_serving.specs.declared.faults.ConnFault.TheVariants as fault
use Rattle.mqb_commands.specs.declared.status.Status.{Status}
use Rattle.mqb_store_laws.specs.Faults.{IsBadStore}
use Rattle.mqb_connections.specs.Statuses.{IsFaultless, probe_status}

-- The manager to which the store opens serves a connection over an input that held and an
-- output that had taken, before and after. The disk stands for what it left, and the program
-- ends as the connection did.
pub record Probes (steady : Option ℕ) (d e : View) (held held_now taken taken_now : Option (List ℕ))
    (r : Status) : Type 0 where
  pub first : ManagerState
  pub last : ManagerState
  pub now : ℕ
  pub end : Answer
  pub opened : OpensAs d first
  pub moment : IsMoment steady now
  pub serves :
      Serves purpose.Serve now (stored_of first) (stored_of last) held held_now taken taken_now end
  pub whole :
      ServesWhole end purpose.Serve now (stored_of first) (stored_of last) held taken taken_now
  pub disk : KeepsDisk d e first last
  -- so the disk is settled still, where it was, and stands for that manager
  pub up : end ≢ Err fault.DiskFault → IsUp last
  pub disk_faults : FaultsAsSaid is_disk_fault d.faults e.faults end
  pub ends : r ≡ probe_status end

-- a store that was not opened: nothing is read and nothing is written
abbrev pub IsUnprobed : (d e : View) → (held held_now taken taken_now : Option (List ℕ)) → Status
    → Type 0
IsUnprobed d e held held_now taken taken_now r =
    IsNotOpened d e r × (held_now ≡ held) × (taken_now ≡ taken)

-- `probe`
abbrev pub ProbesStore : (steady : Option ℕ) → (d e : View)
    → (held held_now taken taken_now : Option (List ℕ)) → Status → Type 0
ProbesStore steady d e held held_now taken taken_now r =
    Probes steady d e held held_now taken taken_now r
    ⊎ IsUnprobed d e held held_now taken taken_now r

-- A sound store is probed to the end, where neither the disk nor the input nor the output failed.
abbrev pub CompletesProbe : (d e : View) → (reads reads_now writes writes_now : ℕ) → Status → Type 0
CompletesProbe d e reads reads_now writes writes_now r =
    ((at : ℕ) → Each d.reads (IsBadStore at) → ⊥) → (Rose d.faults e.faults → ⊥)
    → (Rose reads reads_now → ⊥) → (Rose writes writes_now → ⊥) → IsFaultless r
