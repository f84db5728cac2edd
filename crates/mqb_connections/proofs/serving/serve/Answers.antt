use Rattle.std.proofs.Common.{inl, inr, refl}
use Rattle.mqb_connections.proofs.Asking.{asks_none}
use Rattle.mqb_connections.proofs.Completing.{served_completes}
use Rattle.mqb_connections.proofs.Ending.{link_is_net}
use Rattle.mqb_connections.proofs.Storing.{store_served}
use Rattle.mqb_connections.proofs.Unopened.{unopened_completes, unopened_disk, unopened_net, unopened_net_end, unopened_write}
use Rattle.mqb_connections.proofs.serving.serve.Goals as goal

pub returns-in-Err-clause-served : goal.returns-in-Err-clause-served
returns-in-Err-clause-served g c = inl ((c.in-Err.ensures.fails, refl), record { finished = refl; faults = refl; lost = refl; idle = refl })

pub returns-in-Ok-served-clause-served : goal.returns-in-Ok-served-clause-served
returns-in-Ok-served-clause-served g c =
    let served = c.in-Ok-served.ensures in
    inr (store_served c.in-Ok.ensures.opened c.open.ensures.reads served.served served.disk served.up)

pub returns-in-Err-served-clause-served : goal.returns-in-Err-served-clause-served
returns-in-Err-served-clause-served g c =
    let served = c.in-Err-served.ensures in
    inr (store_served c.in-Ok.ensures.opened c.open.ensures.reads served.served served.disk served.up)

pub returns-in-Err-clause-complete : goal.returns-in-Err-clause-complete
returns-in-Err-clause-complete g c = unopened_completes _ _ _ _ _ _ c.in-Err.status c.in-Err.ensures.fails

pub returns-in-Ok-served-clause-complete : goal.returns-in-Ok-served-clause-complete
returns-in-Ok-served-clause-complete g c = λ _ _ _ _. inl refl

pub returns-in-Err-served-clause-complete : goal.returns-in-Err-served-clause-complete
returns-in-Err-served-clause-complete g c =
    let served = c.in-Err-served.ensures in
    served_completes _ (g.D.Disk.view c.args.disk.now) (g.D.Disk.view c.open.new.disk) (g.D.Disk.view c.serve_all-served.new.disk)
    _ _ _ _ _ _ _ _ _ c.in-Err-served.status _ served.served.ends c.in-Ok.ensures.cause served.write_faults served.disk_faults served.net_faults

pub returns-in-Err-clause-write_faults : goal.returns-in-Err-clause-write_faults
returns-in-Err-clause-write_faults g c = unopened_write _ _ _ _ c.in-Err.status c.in-Err.ensures.fails

pub returns-in-Err-clause-disk_faults : goal.returns-in-Err-clause-disk_faults
returns-in-Err-clause-disk_faults g c = unopened_disk _ _ c.in-Err.status c.in-Err.ensures.fails

pub returns-in-Err-clause-net_faults : goal.returns-in-Err-clause-net_faults
returns-in-Err-clause-net_faults g c = unopened_net _ _ _ c.in-Err.status c.in-Err.ensures.fails

pub returns-in-Err-clause-ends : goal.returns-in-Err-clause-ends
returns-in-Err-clause-ends g c = unopened_net_end _ _ c.in-Err.status c.in-Err.ensures.fails

pub returns-in-Err-clause-asked : goal.returns-in-Err-clause-asked
returns-in-Err-clause-asked g c = asks_none _ _ _ _ _ refl refl

pub returns-in-Ok-served-clause-asked : goal.returns-in-Ok-served-clause-asked
returns-in-Ok-served-clause-asked g c = c.in-Ok-served.ensures.asked

pub returns-in-Err-served-clause-asked : goal.returns-in-Err-served-clause-asked
returns-in-Err-served-clause-asked g c = c.in-Err-served.ensures.asked

pub returns-in-Err-served-clause-write_faults : goal.returns-in-Err-served-clause-write_faults
returns-in-Err-served-clause-write_faults g c = c.in-Err-served.ensures.write_faults

pub returns-in-Err-served-clause-net_faults : goal.returns-in-Err-served-clause-net_faults
returns-in-Err-served-clause-net_faults g c = c.in-Err-served.ensures.net_faults

pub returns-in-Err-served-clause-ends : goal.returns-in-Err-served-clause-ends
returns-in-Err-served-clause-ends g c = link_is_net c.in-Err-served.status c.in-Err-served.ensures.ends
