use Rattle.std.proofs.Common.{inl, inr}
use Rattle.mqb_commands.specs.Causes.{DiskFaultHasCause}
use Rattle.mqb_commands.specs.lemmas.Taking.{told_is}
use Rattle.mqb_connections.specs.Causes.{IsLinkEnd}
use Rattle.mqb_connections.proofs.Asking.{asks_none, asks_one}
use Rattle.mqb_connections.proofs.Reaches.{calm_unless, disk_of, end_of, no_disk_fault, reach_as}
use Rattle.mqb_connections.proofs.reaching.reach_at.Goals as goal

pub returns-in-Ok-clause-reaches : goal.returns-in-Ok-clause-reaches
returns-in-Ok-clause-reaches g c = inr (record {
  end = c.in-Ok.end;
  reach = c.in-Ok.ensures.reach;
  up = c.in-Ok.ensures.up;
  disk_faults = c.in-Ok.ensures.disk_faults;
  faults = c.in-Ok.ensures.net_faults;
  lost = c.in-Ok.ensures.lost;
  told = c.tell_reach.ensures.told;
})

pub returns-in-Ok-clause-asked : goal.returns-in-Ok-clause-asked
returns-in-Ok-clause-asked g c =
    let next = c.in-Ok.ensures.reach.next in
    asks_one _ _ next.visit.ended _ _ next.finished c.in-Ok.ensures.asked

pub returns-in-Err-clause-asked : goal.returns-in-Err-clause-asked
returns-in-Err-clause-asked g c = asks_none 1 _ _ _ _ c.in-Err.ensures.none_finished c.in-Err.ensures.asked

pub returns-in-Ok-clause-up : goal.returns-in-Ok-clause-up
returns-in-Ok-clause-up g c goes = c.in-Ok.ensures.up (no_disk_fault c.in-Ok.end _ _ c.tell_reach.result c.tell_reach.ensures.told goes)

pub returns-in-Ok-clause-calm : goal.returns-in-Ok-clause-calm
returns-in-Ok-clause-calm g c goes =
    calm_unless c.in-Ok.end _ _ c.in-Ok.ensures.disk_faults (no_disk_fault c.in-Ok.end _ _ c.tell_reach.result c.tell_reach.ensures.told goes)

pub returns-in-Ok-clause-disk_faults : goal.returns-in-Ok-clause-disk_faults
returns-in-Ok-clause-disk_faults g c =
    let before = (g.D.Disk.view c.args.disk.now).faults in
    let after = (g.D.Disk.view c.reach_over.new.disk).faults in
    reach_as (DiskFaultHasCause before after) c.in-Ok.end _ _ c.tell_reach.result (disk_of before after c.in-Ok.end c.in-Ok.ensures.disk_faults) tt tt
    c.tell_reach.ensures.told

pub returns-in-Ok-clause-ends : goal.returns-in-Ok-clause-ends
returns-in-Ok-clause-ends g c = reach_as IsLinkEnd c.in-Ok.end _ _ c.tell_reach.result (end_of c.in-Ok.end) tt tt c.tell_reach.ensures.told

pub returns-in-Err-clause-disk_faults : goal.returns-in-Err-clause-disk_faults
returns-in-Err-clause-disk_faults g c =
    told_is (DiskFaultHasCause (g.D.Disk.view c.args.disk.now).faults (g.D.Disk.view c.reach_over.new.disk).faults) _ _ _ _ c.tell.result c.tell.ensures.told tt tt

pub returns-in-Err-clause-ends : goal.returns-in-Err-clause-ends
returns-in-Err-clause-ends g c = told_is IsLinkEnd _ _ _ _ c.tell.result c.tell.ensures.told tt tt
