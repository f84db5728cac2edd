use Rattle.std.proofs.Common.{◌≡◌, refl, subst, Option, ℕ}
use Rattle.mqb_commands.specs.Causes.{DiskFaultHasCause}
use Rattle.mqb_commands.specs.lemmas.Taking.{told_is}
use Rattle.mqb_connections.specs.Causes.{IsLinkEnd}
use Rattle.mqb_connections.specs.Reached.{ReachesAt}
use Rattle.mqb_connections.proofs.Asking.{asks_none}
use Rattle.mqb_connections.proofs.reaching.reach_host.Goals as goal

pub returns-in-Some-clause-reaches : goal.returns-in-Some-clause-reaches
returns-in-Some-clause-reaches g c =
    subst (λ (o : Option ℕ). ReachesAt c.args.why c.args.named o (g.C.Clock.steady c.args.clock.now) (c.reach_at.new.disk ≡ c.args.disk.now)
    (g.D.Disk.view c.args.disk.now).faults (g.D.Disk.view c.reach_at.new.disk).faults c.args.manager.now c.reach_at.new.manager (record {
      finished = g.N.Net.finished c.args.net.now;
      finished_now = g.N.Net.finished c.reach_at.new.net;
      faults = g.N.Net.faults c.args.net.now;
      faults_now = g.N.Net.faults c.reach_at.new.net;
      lost = g.N.Net.lost c.args.net.now;
      lost_now = g.N.Net.lost c.reach_at.new.net;
      idle = g.N.Net.idle c.args.net.now;
      idle_now = g.N.Net.idle c.reach_at.new.net;
    }) (g.K.Sink.taken c.args.out.now) (g.K.Sink.taken c.reach_at.new.out) c.reach_at.result) c.in-Some.ensures.index c.reach_at.ensures.reaches

pub returns-in-None-clause-disk_faults : goal.returns-in-None-clause-disk_faults
returns-in-None-clause-disk_faults g c =
    told_is (DiskFaultHasCause (g.D.Disk.view c.args.disk.now).faults (g.D.Disk.view c.args.disk.now).faults) _ _ _ _ c.tell.result c.tell.ensures.told tt tt

pub returns-in-None-clause-ends : goal.returns-in-None-clause-ends
returns-in-None-clause-ends g c = told_is IsLinkEnd _ _ _ _ c.tell.result c.tell.ensures.told tt tt
