use Rattle.std.proofs.Common.{◌≡◌}
use Rattle.std.specs.Prelude.{Ok}
use Rattle.mqb_manager.specs.Keeping.{KeepsDisk}
use Rattle.mqb_manager.specs.States.{IsUp}
use Rattle.mqb_outside.specs.Disk.{AtMost}
use Rattle.mqb_work.specs.Works.{Works}
use Rattle.mqb_work.proofs.running.work_all.Given as goal

-- as many steps as the index says were made, and the program goes on
abbrev pub invariant-loop-index : goal.invariant-loop-index
invariant-loop-index g l = record {
  works : Works l.fn.job l.fn.hosts l._index (g.C.Clock.steady l.fn.clock) l.fn.manager l.manager (g.K.Sink.taken l.fn.out) (g.K.Sink.taken l.out) (Ok tt);
  up : IsUp l.manager;
  disk : KeepsDisk (g.D.Disk.view l.fn.disk) (g.D.Disk.view l.disk) l.fn.manager l.manager;
  write_faults : g.K.Sink.write_faults l.out ≡ g.K.Sink.write_faults l.fn.out;
  disk_faults : (g.D.Disk.view l.disk).faults ≡ (g.D.Disk.view l.fn.disk).faults;
  clock : g.C.Clock.steady l.clock ≡ g.C.Clock.steady l.fn.clock;
  asked : AtMost l._index (g.C.Clock.asked l.fn.clock) (g.C.Clock.asked l.clock);
}
