use Rattle.std.proofs.Common.{inl, inr, refl}
use Rattle.mqb_connections.proofs.Asking.{rose_once}
use Rattle.mqb_connections.proofs.Ends.{probe_disk}
use Rattle.mqb_connections.proofs.Probes.{probe_completes, probe_ends, probe_read, probe_write, store_probes}
use Rattle.mqb_connections.proofs.Unopened.{unopened_disk, unopened_faultless, unopened_probe_end, unopened_read, unopened_write}
use Rattle.mqb_connections.proofs.probing.probe.Goals as goal

pub returns-clause-disk_faults : goal.returns-clause-disk_faults
returns-clause-disk_faults g c =
    probe_disk (g.D.Disk.view c.args.disk.now).faults (g.D.Disk.view c.open.new.disk).faults (g.D.Disk.view c.serve_piped-end.new.disk).faults
    c.serve_piped-end.result c.probe_status.result c.in-Ok.ensures.cause c.probe_status.ensures c.serve_piped-end.ensures.disk_faults

pub returns-clause-probes : goal.returns-clause-probes
returns-clause-probes g c =
    store_probes (g.C.Clock.steady c.args.clock.now) (g.D.Disk.view c.args.disk.now) (g.D.Disk.view c.open.new.disk) (g.D.Disk.view c.serve_piped-end.new.disk)
    c.in-Ok.manager c.serve_piped-end.new.manager c.now-now.result c.serve_piped-end.result
    (g.S.Source.held c.args.input.now) (g.S.Source.held c.serve_piped-end.new.input) (g.K.Sink.taken c.args.out.now) (g.K.Sink.taken c.serve_piped-end.new.out)
    c.probe_status.result c.in-Ok.ensures.opened c.in-Ok.ensures.reads c.in-Ok.ensures.cause c.now-now.ensures.moment
    c.serve_piped-end.ensures.served c.serve_piped-end.ensures.whole c.serve_piped-end.ensures.disk c.serve_piped-end.ensures.up
    c.serve_piped-end.ensures.disk_faults c.probe_status.ensures

pub returns-clause-complete : goal.returns-clause-complete
returns-clause-complete g c =
    probe_completes (g.D.Disk.view c.args.disk.now) (g.D.Disk.view c.open.new.disk) (g.D.Disk.view c.serve_piped-end.new.disk)
    (g.S.Source.read_faults c.args.input.now) (g.S.Source.read_faults c.serve_piped-end.new.input)
    (g.K.Sink.write_faults c.args.out.now) (g.K.Sink.write_faults c.serve_piped-end.new.out)
    c.serve_piped-end.result c.probe_status.result c.in-Ok.ensures.cause c.serve_piped-end.ensures.disk_faults
    c.serve_piped-end.ensures.read_faults c.serve_piped-end.ensures.write_faults c.probe_status.ensures

pub returns-clause-read_faults : goal.returns-clause-read_faults
returns-clause-read_faults g c =
    probe_read (g.S.Source.read_faults c.args.input.now) (g.S.Source.read_faults c.serve_piped-end.new.input)
    c.serve_piped-end.result c.probe_status.result c.probe_status.ensures c.serve_piped-end.ensures.read_faults

pub returns-clause-write_faults : goal.returns-clause-write_faults
returns-clause-write_faults g c =
    probe_write (g.K.Sink.write_faults c.args.out.now) (g.K.Sink.write_faults c.serve_piped-end.new.out)
    c.serve_piped-end.result c.probe_status.result c.probe_status.ensures c.serve_piped-end.ensures.write_faults

pub returns-clause-ends : goal.returns-clause-ends
returns-clause-ends g c = probe_ends c.serve_piped-end.result c.probe_status.result c.probe_status.ensures

pub returns-clause-asked : goal.returns-clause-asked
returns-clause-asked g c = inr (rose_once _ _ c.now-now.ensures.asked)

-- the store was not opened

pub returns-in-Err-clause-probes : goal.returns-in-Err-clause-probes
returns-in-Err-clause-probes g c = inr (c.in-Err.ensures.fails, refl, refl)

pub returns-in-Err-clause-complete : goal.returns-in-Err-clause-complete
returns-in-Err-clause-complete g c = λ sound failed _ _. unopened_faultless _ _ c.in-Err.status c.in-Err.ensures.fails sound failed

pub returns-in-Err-clause-read_faults : goal.returns-in-Err-clause-read_faults
returns-in-Err-clause-read_faults g c = unopened_read _ _ _ _ c.in-Err.status c.in-Err.ensures.fails

pub returns-in-Err-clause-write_faults : goal.returns-in-Err-clause-write_faults
returns-in-Err-clause-write_faults g c = unopened_write _ _ _ _ c.in-Err.status c.in-Err.ensures.fails

pub returns-in-Err-clause-disk_faults : goal.returns-in-Err-clause-disk_faults
returns-in-Err-clause-disk_faults g c = unopened_disk _ _ c.in-Err.status c.in-Err.ensures.fails

pub returns-in-Err-clause-ends : goal.returns-in-Err-clause-ends
returns-in-Err-clause-ends g c = unopened_probe_end _ _ c.in-Err.status c.in-Err.ensures.fails

pub returns-in-Err-clause-asked : goal.returns-in-Err-clause-asked
returns-in-Err-clause-asked g c = inl refl
