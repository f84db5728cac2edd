use Rattle.std.proofs.Common.{inl, inr, refl, subst, sym, ℕ}
use Rattle.mqb_commands.specs.Causes.{DiskFaultHasCause}
use Rattle.mqb_commands.specs.lemmas.Opening.{on_store}
use Rattle.mqb_connections.specs.Reached.{IsOpenedOnly, index_of_host}
use Rattle.mqb_connections.proofs.Asking.{asks_none}
use Rattle.mqb_connections.proofs.Ending.{link_is_net}
use Rattle.mqb_connections.proofs.Reaches.{reach_completes, reached_from, store_net}
use Rattle.mqb_connections.proofs.Unopened.{unopened_disk, unopened_faultless, unopened_net, unopened_net_end, unopened_write}
use Rattle.mqb_connections.proofs.reaching.reach.Goals as goal

pub returns-clause-reaches : goal.returns-clause-reaches
returns-clause-reaches g c =
    let d = g.D.Disk.view c.args.disk.now in
    let f = g.D.Disk.view c.open.new.disk in
    let m = c.in-Ok.manager in
    let same = c.in-Ok.ensures.cause in
    inl (on_store c.in-Ok.ensures.opened c.open.ensures.reads
    (reached_from _ _ _ _ _ _ _ _ _ _ (index_of_host m.store.state.peers c.args.host.now)
    (λ kept. subst (λ k. IsOpenedOnly d (g.D.Disk.view k)) (sym kept) (c.open.ensures.reads, same)) same c.reach_host-end.ensures.reaches)
    c.reach_host-end.ensures.disk)

pub returns-clause-complete : goal.returns-clause-complete
returns-clause-complete g c =
    reach_completes _ _ _ _ _ _ _ _ _ _ (g.K.Sink.write_faults c.args.out.now) (g.K.Sink.write_faults c.reach_host-end.new.out) (returns-clause-reaches g c) c.reach_host-end.ensures.write_faults

pub returns-clause-disk_faults : goal.returns-clause-disk_faults
returns-clause-disk_faults g c =
    subst (λ (k : ℕ). DiskFaultHasCause k (g.D.Disk.view c.reach_host-end.new.disk).faults c.reach_host-end.result) c.in-Ok.ensures.cause
    c.reach_host-end.ensures.disk_faults

pub returns-clause-net_faults : goal.returns-clause-net_faults
returns-clause-net_faults g c = store_net _ _ _ _ _ _ _ _ _ _ (returns-clause-reaches g c)

pub returns-clause-ends : goal.returns-clause-ends
returns-clause-ends g c = link_is_net c.reach_host-end.result c.reach_host-end.ensures.ends

pub returns-clause-asked : goal.returns-clause-asked
returns-clause-asked g c = c.reach_host-end.ensures.asked

pub returns-clause-write_faults : goal.returns-clause-write_faults
returns-clause-write_faults g c = c.reach_host-end.ensures.write_faults

-- the store was not opened

pub returns-in-Err-clause-reaches : goal.returns-in-Err-clause-reaches
returns-in-Err-clause-reaches g c = inr ((c.in-Err.ensures.fails, refl), record { finished = refl; faults = refl; lost = refl; idle = refl })

pub returns-in-Err-clause-complete : goal.returns-in-Err-clause-complete
returns-in-Err-clause-complete g c = λ sound failed _ _ _. unopened_faultless _ _ c.in-Err.status c.in-Err.ensures.fails sound failed

pub returns-in-Err-clause-write_faults : goal.returns-in-Err-clause-write_faults
returns-in-Err-clause-write_faults g c = unopened_write _ _ _ _ c.in-Err.status c.in-Err.ensures.fails

pub returns-in-Err-clause-disk_faults : goal.returns-in-Err-clause-disk_faults
returns-in-Err-clause-disk_faults g c = unopened_disk _ _ c.in-Err.status c.in-Err.ensures.fails

pub returns-in-Err-clause-net_faults : goal.returns-in-Err-clause-net_faults
returns-in-Err-clause-net_faults g c = unopened_net _ _ _ c.in-Err.status c.in-Err.ensures.fails

pub returns-in-Err-clause-ends : goal.returns-in-Err-clause-ends
returns-in-Err-clause-ends g c = unopened_net_end _ _ c.in-Err.status c.in-Err.ensures.fails

pub returns-in-Err-clause-asked : goal.returns-in-Err-clause-asked
returns-in-Err-clause-asked g c = asks_none 1 _ _ _ _ refl refl
