-- What a run makes of the disk of a manager.
use Rattle.std.specs.Prelude.{[], ◌+◌, ◌∷◌, ◌≡◌, ◌≤◌, ◌⊎◌, Bool, List, count_by, false, length, max}
use Rattle.std.specs.Prelude.{min, true, ℕ}
use Rattle.mqb_outside.specs.Disk.{Switch, View}
use Rattle.mqb_outside.specs.Images.{Each}
use Rattle.mqb_base.specs.declared.ids.Guid.{Guid}
use Rattle.mqb_journal.specs.States.{JournalState}
use Rattle.mqb_model.specs.managers.Manager.{Manager, doubt_of}
use Rattle.mqb_model.specs.records.Record.{Record}
use Rattle.mqb_model.specs.state.Durable.{durable}
use Rattle.mqb_model.specs.state.State.{State}
use Rattle.mqb_network.specs.Courses.{Course}
use Rattle.mqb_network.specs.Runs.{moved_on}
use Rattle.mqb_outside.specs.Faults.{END}
use Rattle.mqb_world.specs.mqb_runs.Runs.{Played, move_of}
use Rattle.mqb_script.specs.declared.events.Event.{Event}
use Rattle.mqb_script.specs.declared.managers.Which.{Which}
use Rattle.mqb_store_laws.specs.Images.{Opens, OpensTo}
use Rattle.mqb_world.specs.Lasting.{LeadTo}
use Rattle.mqb_world.specs.Disks.{Arms, Restarts, Switching, failures_told, switching}

-- How often it failed.

-- the replies of a run that say so
abbrev pub failures : Which → Course → List Played → ℕ
failures which c [] = 0
failures which c (p ∷ ps) =
    length (failures_told (moved_on c (move_of p)).network.notes which p.event p.reply)
    + failures which (moved_on c (move_of p)) ps

-- a count of faults rose by n at least, or stands at its end; it never falls
abbrev pub RoseBy : ℕ → ℕ → ℕ → Type 0
RoseBy n before after = max before (min (before + n) END) ≤ after

-- How often it was armed, and started again.

abbrev pub is_arming : Switching → Bool
is_arming (Arms call mode) = true
is_arming _ = false

abbrev pub is_restart : Switching → Bool
is_restart (Restarts pick) = true
is_restart _ = false

-- the lines of a script that ask for it
abbrev pub arms : Which → List (ℕ × Event) → ℕ
arms which lines = count_by (λ line. is_arming (switching which line.1)) lines

abbrev pub restarts : Which → List (ℕ × Event) → ℕ
restarts which lines = count_by (λ line. is_restart (switching which line.1)) lines

-- a count went up by n, or stands at its end
abbrev pub WentUpBy : ℕ → ℕ → ℕ → Type 0
WentUpBy n before after = (after ≡ before + n) ⊎ (after ≡ END)

-- The disk was armed and started again as often as these lines ask for it.
pub record IsSwitchedBy (which : Which) (lines : List (ℕ × Event)) (s t : Switch) : Type 0 where
  pub arms : WentUpBy (arms which lines) s.arms t.arms
  pub restarts : WentUpBy (restarts which lines) s.restarts t.restarts

-- What stands on it: each image opens to what the store keeps of the manager's state; or, where a
-- record is in doubt, to what it would keep with that.
pub record StandsOn (m : Manager) (d : View) : Type 0 where
  pub journal : JournalState
  pub state : State
  pub same : durable state ≡ durable m.state
  pub opens : Each d.leaves (Opens journal state (doubt_of m.condition))

-- An image opens to what the store keeps of a state to which records lead from a manager's.
pub record OpensBehind (m : Manager) (image : List ℕ) : Type 0 where
  pub records : List Record
  pub state : State
  pub leads : LeadTo records m.state state
  pub guid : Guid
  pub count : ℕ
  pub opens : OpensTo guid count (durable state) image

-- What stands on a disk where an event broke off: nothing of what the manager kept is lost, and
-- records may stand behind that.
abbrev pub StandsBehind : Manager → View → Type 0
StandsBehind m d = Each d.leaves (OpensBehind m)
