-- That each point of a run shows the stream world.
use Rattle.std.specs.Prelude.{◌++◌, ◌≡◌, Bool, List, ℕ}
use Rattle.mqb_network.specs.Courses.{Course}
use Rattle.mqb_network.specs.Doubts.{settled}
use Rattle.mqb_network.specs.Runs.{IsRun, Move, after_run}
use Rattle.mqb_history.specs.Invariants.{HaveOneStreamWorld}
use Rattle.mqb_history.specs.Leading.{AreStreamsLed}
use Rattle.mqb_runs.specs.Hosts.{hosts}

-- Each stream is a run of the stream world, which is shown; and none is left out: each in the
-- ledger goes from one manager to another.
pub record ShowsStreams (c : Course) : Type 0 where
  pub streams : HaveOneStreamWorld c
  pub led : AreStreamsLed c

-- At each point of a run, with each record in doubt applied or left out.
abbrev pub AlwaysShowsStreams : List Move → Type 0
AlwaysShowsStreams ms = (before behind : List Move) → ms ≡ before ++ behind → (kept : ℕ → Bool)
    → ShowsStreams (settled kept (after_run hosts before))

-- Each run of the two managers does.
abbrev pub RunsShowStreams : Type 0
RunsShowStreams = (ms : List Move) → IsRun hosts ms → AlwaysShowsStreams ms
