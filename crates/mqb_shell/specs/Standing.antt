-- What is told at one moment of a manager that is open and of what it works with.
use Rattle.std.specs.Prelude.{List, Option, ℕ}
use Rattle.mqb_connections.specs.Served.{Nets}
use Rattle.mqb_manager.specs.States.{ManagerState}
use Rattle.mqb_outside.specs.Net.{Ended}

-- the manager, how often its disk has failed and the clock was asked, and what its net tells; what
-- the disk stands for is told by the manager
pub record Standing : Type 0 where
  pub manager : ManagerState
  pub disk_faults : ℕ
  pub asked : ℕ
  pub finished : Option (List Ended)
  pub faults : ℕ
  pub lost : ℕ
  pub idle : ℕ

-- what the net tells, from one moment to another
abbrev pub nets : (b a : Standing) → Nets
nets b a = record {
  finished = b.finished;
  finished_now = a.finished;
  faults = b.faults;
  faults_now = a.faults;
  lost = b.lost;
  lost_now = a.lost;
  idle = b.idle;
  idle_now = a.idle;
}
