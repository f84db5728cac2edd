use Rattle.mqb_store_laws.specs.lemmas.Carrying.{on_told}
use Rattle.mqb_commands.proofs.Failing.{start_fails}
use Rattle.mqb_commands.proofs.opening.open.Goals as goal

pub returns-in-Ok-clause-opened : goal.returns-in-Ok-clause-opened
returns-in-Ok-clause-opened g c =
    let m = c.in-Ok.manager in
    let d = g.D.Disk.view c.args.disk.now in
    let e = g.D.Disk.view c.start.new.disk in
    record {
      manager = c.in-Ok.ensures.manager;
      durable = c.in-Ok.ensures.durable;
      up = c.in-Ok.ensures.up;
      on = on_told e d m.store.journal m.store.state c.in-Ok.ensures.on c.in-Ok.ensures.reads.reads.none_lost;
      image = c.in-Ok.ensures.opens;
    }

pub returns-in-Err-clause-fails : goal.returns-in-Err-clause-fails
returns-in-Err-clause-fails g c =
    start_fails (g.D.Disk.view c.args.disk.now) (g.D.Disk.view c.start.new.disk) c.in-Err.fault c.open_status.result c.open_status.ensures
    c.in-Err.ensures.reads c.in-Err.ensures.cause c.in-Err.ensures.bad c.in-Err.ensures.never
