use Rattle.std.proofs.Common.{◌≡◌}
use Rattle.std.specs.Prelude.{None}
use Rattle.mqb_manager.specs.Keeping.{KeepsDisk}
use Rattle.mqb_manager.specs.States.{IsUp}
use Rattle.mqb_commands.specs.declared.status.Status.TheVariants as status
use Rattle.mqb_connections.specs.Asked.{AsksForEach}
use Rattle.mqb_connections.specs.Served.{ServesPeers}
use Rattle.mqb_connections.proofs.serving.serve_all.Given as goal

-- as many as the index says were served, and the program goes on
abbrev pub invariant-loop-index : goal.invariant-loop-index
invariant-loop-index g l = record {
  served : ServesPeers ⊥ 1 l.index (g.C.Clock.steady l.fn.clock) l.fn.manager l.manager (g.N.Net.finished l.fn.net) (g.N.Net.finished l.net)
      (g.N.Net.faults l.fn.net) (g.N.Net.faults l.net) (g.K.Sink.taken l.fn.out) (g.K.Sink.taken l.out) status.Done;
  up : IsUp l.manager;
  unlinked : l.manager.session ≡ None;
  disk : KeepsDisk (g.D.Disk.view l.fn.disk) (g.D.Disk.view l.disk) l.fn.manager l.manager;
  idle : g.N.Net.idle l.net ≡ g.N.Net.idle l.fn.net;
  unfinished : g.N.Net.unfinished l.net ≡ g.N.Net.unfinished l.fn.net;
  write_faults : g.K.Sink.write_faults l.out ≡ g.K.Sink.write_faults l.fn.out;
  disk_faults : (g.D.Disk.view l.disk).faults ≡ (g.D.Disk.view l.fn.disk).faults;
  net_faults : g.N.Net.faults l.net ≡ g.N.Net.faults l.fn.net;
  clock : g.C.Clock.steady l.clock ≡ g.C.Clock.steady l.fn.clock;
  asked : AsksForEach l.index (g.N.Net.finished l.fn.net) (g.N.Net.finished l.net) (g.C.Clock.asked l.fn.clock) (g.C.Clock.asked l.clock);
}
