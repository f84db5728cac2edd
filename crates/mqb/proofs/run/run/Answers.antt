use Rattle.std.proofs.Common.{sym, subst}
use Rattle.std.specs.Prelude.{Option}
use Rattle.mqb.specs.Completeness.{Completes}
use Rattle.mqb.specs.Runs.{Asks, DiskCause, IsDiskFaultOf, NetCause}
use Rattle.mqb.proofs.run.run.Goals as goal
use Rattle.mqb_connections.specs.Causes.{NetFaultHasCause}
use Rattle.mqb_replay.specs.Devices.{devices}
use Rattle.mqb_words.specs.declared.commands.Command.{Command}

pub returns-in-Ok-clause-net_fault : goal.returns-in-Ok-clause-net_fault
returns-in-Ok-clause-net_fault g c =
    subst (λ (asked : Option Command). NetFaultHasCause (NetCause asked (g.N.Net.faults c.args.net.now) (g.N.Net.faults c.run_command.new.net)
    (g.N.Net.lost c.args.net.now) (g.N.Net.lost c.run_command.new.net)) c.run_command.result) (sym c.in-Ok.ensures.words) c.run_command.ensures.net_fault

pub returns-in-Ok-clause-complete : goal.returns-in-Ok-clause-complete
returns-in-Ok-clause-complete g c =
    subst (λ (asked : Option Command). Completes asked (g.D.Disk.view c.args.disk.now)
    (devices (g.M.Medium.strings c.args.medium.now) (g.P.Disk.view c.args.first.now) (g.P.Disk.view c.args.second.now)) (g.S.Source.held c.args.input.now)
    (record { input = g.S.Source.read_faults c.args.input.now; output = g.K.Sink.write_faults c.args.out.now; disk = (g.D.Disk.view c.args.disk.now).faults; net = g.N.Net.faults c.args.net.now; lost = g.N.Net.lost c.args.net.now })
    (record { input = g.S.Source.read_faults c.run_command.new.input; output = g.K.Sink.write_faults c.run_command.new.out; disk = (g.D.Disk.view c.run_command.new.disk).faults; net = g.N.Net.faults c.run_command.new.net; lost = g.N.Net.lost c.run_command.new.net })
    c.run_command.result) (sym c.in-Ok.ensures.words) c.run_command.ensures.complete

pub returns-in-Ok-clause-asked : goal.returns-in-Ok-clause-asked
returns-in-Ok-clause-asked g c =
    subst (λ (asked : Option Command). Asks asked (g.N.Net.finished c.args.net.now) (g.N.Net.finished c.run_command.new.net)
    (g.C.Clock.asked c.args.clock.now) (g.C.Clock.asked c.run_command.new.clock)) (sym c.in-Ok.ensures.words) c.run_command.ensures.asked

pub returns-in-Ok-clause-disk_fault : goal.returns-in-Ok-clause-disk_fault
returns-in-Ok-clause-disk_fault g c =
    subst (λ (asked : Option Command). IsDiskFaultOf (DiskCause asked (g.D.Disk.view c.args.disk.now).faults (g.D.Disk.view c.run_command.new.disk).faults
    (devices (g.M.Medium.strings c.args.medium.now) (g.P.Disk.view c.args.first.now) (g.P.Disk.view c.args.second.now))
    (devices (g.M.Medium.strings c.run_command.new.medium) (g.P.Disk.view c.run_command.new.first) (g.P.Disk.view c.run_command.new.second))) c.run_command.result)
    (sym c.in-Ok.ensures.words) c.run_command.ensures.disk_fault
