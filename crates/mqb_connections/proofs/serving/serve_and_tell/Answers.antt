use Rattle.std.proofs.Common.{Err, refl}
use Rattle.mqb_connections.proofs.Asking.{asks_none, asks_one}
use Rattle.mqb_connections.proofs.Ends.{calm_behind, disk_behind}
use Rattle.mqb_connections.proofs.Peers.{net_no_done, none_told, one_told, told_no_done, up_unless}
use Rattle.mqb_connections.proofs.serving.serve_and_tell.Goals as goal

pub returns-in-Ok-clause-served : goal.returns-in-Ok-clause-served
returns-in-Ok-clause-served g c =
    one_told c.args.number (g.C.Clock.steady c.args.clock.now) c.args.manager.now c.serve_next.new.manager
    (g.N.Net.finished c.args.net.now) (g.N.Net.finished c.serve_next.new.net) (g.N.Net.faults c.args.net.now) (g.N.Net.faults c.serve_next.new.net)
    (g.K.Sink.taken c.args.out.now) (g.K.Sink.taken c.tell_end.new.out) c.in-Ok.end c.tell_end.result c.in-Ok.ensures.next c.tell_end.ensures.told

pub returns-in-Ok-clause-stops : goal.returns-in-Ok-clause-stops
returns-in-Ok-clause-stops g c =
    told_no_done c.args.number c.in-Ok.end (g.K.Sink.taken c.args.out.now) (g.K.Sink.taken c.tell_end.new.out) c.tell_end.result c.tell_end.ensures.told

pub returns-in-Ok-clause-up : goal.returns-in-Ok-clause-up
returns-in-Ok-clause-up g c = up_unless c.in-Ok.end c.tell_end.result c.tell_end.ensures.stops c.in-Ok.ensures.up

pub returns-in-Ok-clause-disk_faults : goal.returns-in-Ok-clause-disk_faults
returns-in-Ok-clause-disk_faults g c =
    disk_behind c.args.number (g.D.Disk.view c.args.disk.now).faults (g.D.Disk.view c.serve_next.new.disk).faults c.in-Ok.end
    (g.K.Sink.taken c.args.out.now) (g.K.Sink.taken c.tell_end.new.out) c.tell_end.result c.tell_end.ensures.told c.in-Ok.ensures.disk_faults

pub returns-in-Err-clause-served : goal.returns-in-Err-clause-served
returns-in-Err-clause-served g c =
    none_told c.args.number (g.C.Clock.steady c.args.clock.now) c.args.manager.now c.serve_next.new.manager
    (g.N.Net.finished c.args.net.now) (g.N.Net.finished c.serve_next.new.net) (g.N.Net.faults c.args.net.now) (g.N.Net.faults c.serve_next.new.net)
    (g.K.Sink.taken c.args.out.now) (g.K.Sink.taken c.tell_net_fault.new.out) c.tell_net_fault.result
    c.in-Err.ensures.unchanged.1 c.in-Err.ensures.unchanged.2 c.in-Err.ensures.net_faults c.tell_net_fault.ensures.told

pub returns-in-Err-clause-stops : goal.returns-in-Err-clause-stops
returns-in-Err-clause-stops g c =
    net_no_done (g.K.Sink.taken c.args.out.now) (g.K.Sink.taken c.tell_net_fault.new.out) c.tell_net_fault.result c.tell_net_fault.ensures.told
    (Err c.tell_net_fault.result) refl

pub returns-in-Ok-clause-asked : goal.returns-in-Ok-clause-asked
returns-in-Ok-clause-asked g c =
    let next = c.in-Ok.ensures.next in
    asks_one _ _ next.visit.ended _ _ next.finished c.in-Ok.ensures.asked

pub returns-in-Err-clause-asked : goal.returns-in-Err-clause-asked
returns-in-Err-clause-asked g c = asks_none 1 _ _ _ _ c.in-Err.ensures.unchanged.2 c.in-Err.ensures.asked

pub returns-in-Ok-clause-calm : goal.returns-in-Ok-clause-calm
returns-in-Ok-clause-calm g c =
    calm_behind c.args.number c.in-Ok.end (g.K.Sink.taken c.args.out.now) (g.K.Sink.taken c.tell_end.new.out) c.tell_end.result c.tell_end.ensures.told
    (returns-in-Ok-clause-disk_faults g c)
