use Rattle.std.proofs.Common.{sym}
use Rattle.mqb_serve.proofs.Stopped.{hear_kept, hear_keeps, hear_made, hear_never_reads, hear_never_writes, hear_stopped}
use Rattle.mqb_serve.proofs.talk.hear_frame.Goals as goal

pub returns-in-Some-clause-hears : goal.returns-in-Some-clause-hears
returns-in-Some-clause-hears g c =
    hear_stopped (g.D.Disk.view c.args.disk.now) (g.D.Disk.view c.hear-heard.new.disk) c.args.manager.now c.hear-heard.new.self c.in-Ok.packet c.args.moment c.requires.up
    c.hear-heard.ensures.readable c.hear-heard.result c.hear-heard.ensures.call c.args.frame.now (sym c.in-Ok.ensures.packet) c.in-Some.fault (sym c.in-Some.ensures)

pub returns-in-Some-clause-keeps : goal.returns-in-Some-clause-keeps
returns-in-Some-clause-keeps g c =
    hear_keeps (g.D.Disk.view c.args.disk.now) (g.D.Disk.view c.hear-heard.new.disk) c.args.manager.now c.hear-heard.new.self c.in-Ok.packet c.args.moment c.requires.up
    c.hear-heard.ensures.readable c.hear-heard.result c.hear-heard.ensures.call c.in-Some.fault (sym c.in-Some.ensures)

pub returns-in-None-clause-hears : goal.returns-in-None-clause-hears
returns-in-None-clause-hears g c =
    hear_made (g.D.Disk.view c.args.disk.now) (g.D.Disk.view c.hear-heard.new.disk) c.args.manager.now c.hear-heard.new.self c.in-Ok.packet c.args.moment c.requires.up
    c.hear-heard.ensures.readable c.hear-heard.result c.hear-heard.ensures.call c.args.frame.now (sym c.in-Ok.ensures.packet) (sym c.in-None.ensures)

pub returns-in-None-clause-keeps : goal.returns-in-None-clause-keeps
returns-in-None-clause-keeps g c =
    hear_kept (g.D.Disk.view c.args.disk.now) (g.D.Disk.view c.hear-heard.new.disk) c.args.manager.now c.hear-heard.new.self c.in-Ok.packet c.args.moment c.requires.up
    c.hear-heard.ensures.readable c.hear-heard.result c.hear-heard.ensures.call _ (sym c.in-None.ensures)

pub returns-in-Some-clause-no_write : goal.returns-in-Some-clause-no_write
returns-in-Some-clause-no_write g c = hear_never_writes c.hear-heard.result c.in-Some.fault (sym c.in-Some.ensures)

pub returns-in-Some-clause-no_read : goal.returns-in-Some-clause-no_read
returns-in-Some-clause-no_read g c = hear_never_reads c.hear-heard.result c.in-Some.fault (sym c.in-Some.ensures)
