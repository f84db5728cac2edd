-- Each run of the two managers shows the stream world.
use Rattle.std.proofs.Common.{subst}
use Rattle.mqb_network.specs.Runs.{IsRun, beginning}
use Rattle.mqb_history.specs.Laws.{AlwaysOneStreamWorld}
use Rattle.mqb_history.specs.Leading.{CommitmentsLeadToManagers}
use Rattle.mqb_runs.specs.Hosts.{hosts}
use Rattle.mqb_runs.specs.Streams.{RunsShowStreams}
use Rattle.mqb_runs.specs.lemmas.Orderly.{hosts_apart}
use Rattle.mqb_runs.proofs.Keeping.{run_before}

pub show_streams : AlwaysOneStreamWorld → CommitmentsLeadToManagers → RunsShowStreams
show_streams one leads ms run before behind split kept = let first = run_before (beginning hosts) before behind (subst (IsRun hosts) split run) in record {
  streams = one hosts before hosts_apart first kept;
  led = (leads hosts before hosts_apart first kept).1;
}
