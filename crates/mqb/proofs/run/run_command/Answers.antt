use Rattle.std.proofs.Common.{refl, sym, subst}
use Rattle.std.specs.Prelude.{Some}
use Rattle.mqb.proofs.Completing.{attend_completes, call_completes, checkpoint_completes, fetch_completes, help_completes, init_completes, list_completes, make_completes, of_command, peek_completes, probe_completes, push_completes, replay_completes, serve_completes, shell_completes, show_completes, trial_completes, version_completes}
use Rattle.mqb.proofs.DiskFaults.{none_disk, store_disk}
use Rattle.mqb.proofs.Quiet.{probe_net, probe_usage, shows_disk, told_disk}
use Rattle.mqb.proofs.Replaying.{replay_disk, replay_does, replay_net, replay_read, replay_usage, replay_write, trial_disk, trial_does, trial_read}
use Rattle.mqb.proofs.Shelling.{shell_net, shell_usage}
use Rattle.mqb.specs.Runs.{NetCause}
use Rattle.mqb.proofs.run.run_command.Goals as goal
use Rattle.mqb_connections.specs.Causes.{NetFaultHasCause}
use Rattle.mqb_replay.specs.Devices.{devices}
use Rattle.mqb_words.specs.declared.commands.Command.{Command}
use Rattle.mqb_words.specs.declared.commands.Command.TheVariants as command

pub returns-in-Probe-clause-usage : goal.returns-in-Probe-clause-usage
returns-in-Probe-clause-usage g c = probe_usage _ c.probe.result c.probe.ensures.ends

pub returns-in-Probe-clause-net_fault : goal.returns-in-Probe-clause-net_fault
returns-in-Probe-clause-net_fault g c = probe_net _ c.probe.result c.probe.ensures.ends

pub returns-in-Shell-clause-usage : goal.returns-in-Shell-clause-usage
returns-in-Shell-clause-usage g c = shell_usage _ c.run_shell.result c.run_shell.ensures.ends

pub returns-in-Shell-clause-net_fault : goal.returns-in-Shell-clause-net_fault
returns-in-Shell-clause-net_fault g c = shell_net _ c.run_shell.result c.run_shell.ensures.ends

pub returns-in-Serve-clause-net_fault : goal.returns-in-Serve-clause-net_fault
returns-in-Serve-clause-net_fault g c =
    subst (λ (asked : Command). NetFaultHasCause (NetCause (Some asked) (g.N.Net.faults c.args.net.now) (g.N.Net.faults c.serve.new.net)
    (g.N.Net.lost c.args.net.now) (g.N.Net.lost c.serve.new.net)) c.serve.result) (sym c.in-Serve.is) c.serve.ensures.net_faults

pub returns-in-Attend-clause-net_fault : goal.returns-in-Attend-clause-net_fault
returns-in-Attend-clause-net_fault g c =
    subst (λ (asked : Command). NetFaultHasCause (NetCause (Some asked) (g.N.Net.faults c.args.net.now) (g.N.Net.faults c.attend.new.net)
    (g.N.Net.lost c.args.net.now) (g.N.Net.lost c.attend.new.net)) c.attend.result) (sym c.in-Attend.is) c.attend.ensures.net_faults

pub returns-in-Push-clause-net_fault : goal.returns-in-Push-clause-net_fault
returns-in-Push-clause-net_fault g c =
    subst (λ (asked : Command). NetFaultHasCause (NetCause (Some asked) (g.N.Net.faults c.args.net.now) (g.N.Net.faults c.reach.new.net)
    (g.N.Net.lost c.args.net.now) (g.N.Net.lost c.reach.new.net)) c.reach.result) (sym c.in-Push.is) c.reach.ensures.net_faults

pub returns-in-Fetch-clause-net_fault : goal.returns-in-Fetch-clause-net_fault
returns-in-Fetch-clause-net_fault g c =
    subst (λ (asked : Command). NetFaultHasCause (NetCause (Some asked) (g.N.Net.faults c.args.net.now) (g.N.Net.faults c.reach-in-Fetch.new.net)
    (g.N.Net.lost c.args.net.now) (g.N.Net.lost c.reach-in-Fetch.new.net)) c.reach-in-Fetch.result) (sym c.in-Fetch.is) c.reach-in-Fetch.ensures.net_faults

pub returns-in-Replay-clause-complete : goal.returns-in-Replay-clause-complete
returns-in-Replay-clause-complete g c =
    let d = g.D.Disk.view c.args.disk.now in
    let e = g.D.Disk.view c.args.disk.now in
    let b = devices (g.M.Medium.strings c.args.medium.now) (g.P.Disk.view c.args.first.now) (g.P.Disk.view c.args.second.now) in
    let held = g.S.Source.held c.args.input.now in
    of_command c.args.asked.now command.Replay d b held
    (record { input = g.S.Source.read_faults c.args.input.now; output = g.K.Sink.write_faults c.args.out.now; disk = (g.D.Disk.view c.args.disk.now).faults; net = g.N.Net.faults c.args.net.now; lost = g.N.Net.lost c.args.net.now })
    (record { input = g.S.Source.read_faults c.replay.new.input; output = g.K.Sink.write_faults c.replay.new.out; disk = (g.D.Disk.view c.args.disk.now).faults; net = g.N.Net.faults c.args.net.now; lost = g.N.Net.lost c.args.net.now })
    c.status_of.result c.in-Replay.is
    (replay_completes d e b held (g.S.Source.read_faults c.args.input.now) (g.S.Source.read_faults c.replay.new.input)
    (g.K.Sink.write_faults c.args.out.now) (g.K.Sink.write_faults c.replay.new.out) (g.N.Net.faults c.args.net.now) (g.N.Net.faults c.args.net.now)
    (g.N.Net.lost c.args.net.now) (g.N.Net.lost c.args.net.now) c.status_of.result c.replay.result c.status_of.ensures c.replay.ensures.complete)

pub returns-in-Make-clause-complete : goal.returns-in-Make-clause-complete
returns-in-Make-clause-complete g c =
    let d = g.D.Disk.view c.args.disk.now in
    let e = g.D.Disk.view c.args.disk.now in
    let b = devices (g.M.Medium.strings c.args.medium.now) (g.P.Disk.view c.args.first.now) (g.P.Disk.view c.args.second.now) in
    let held = g.S.Source.held c.args.input.now in
    of_command c.args.asked.now (command.Make c.in-Make.orders) d b held
    (record { input = g.S.Source.read_faults c.args.input.now; output = g.K.Sink.write_faults c.args.out.now; disk = (g.D.Disk.view c.args.disk.now).faults; net = g.N.Net.faults c.args.net.now; lost = g.N.Net.lost c.args.net.now })
    (record { input = g.S.Source.read_faults c.args.input.now; output = g.K.Sink.write_faults c.say_made.new.out; disk = (g.D.Disk.view c.args.disk.now).faults; net = g.N.Net.faults c.args.net.now; lost = g.N.Net.lost c.args.net.now })
    c.say_made.result c.in-Make.is
    (make_completes d e b held (g.S.Source.read_faults c.args.input.now) (g.S.Source.read_faults c.args.input.now)
    (g.K.Sink.write_faults c.args.out.now) (g.K.Sink.write_faults c.say_made.new.out) (g.N.Net.faults c.args.net.now) (g.N.Net.faults c.args.net.now)
    (g.N.Net.lost c.args.net.now) (g.N.Net.lost c.args.net.now) c.say_made.result c.in-Make.orders (g.K.Sink.taken c.args.out.now) (g.K.Sink.taken c.say_made.new.out) c.say_made.ensures.says c.say_made.ensures.cause)

pub returns-in-Trial-clause-complete : goal.returns-in-Trial-clause-complete
returns-in-Trial-clause-complete g c =
    let d = g.D.Disk.view c.args.disk.now in
    let e = g.D.Disk.view c.args.disk.now in
    let b = devices (g.M.Medium.strings c.args.medium.now) (g.P.Disk.view c.args.first.now) (g.P.Disk.view c.args.second.now) in
    let held = g.S.Source.held c.args.input.now in
    of_command c.args.asked.now (command.Trial c.in-Trial.orders) d b held
    (record { input = g.S.Source.read_faults c.args.input.now; output = g.K.Sink.write_faults c.args.out.now; disk = (g.D.Disk.view c.args.disk.now).faults; net = g.N.Net.faults c.args.net.now; lost = g.N.Net.lost c.args.net.now })
    (record { input = g.S.Source.read_faults c.args.input.now; output = g.K.Sink.write_faults c.trial.new.out; disk = (g.D.Disk.view c.args.disk.now).faults; net = g.N.Net.faults c.args.net.now; lost = g.N.Net.lost c.args.net.now })
    c.status_of-in-Trial.result c.in-Trial.is
    (trial_completes d e b held (g.S.Source.read_faults c.args.input.now) (g.S.Source.read_faults c.args.input.now)
    (g.K.Sink.write_faults c.args.out.now) (g.K.Sink.write_faults c.trial.new.out) (g.N.Net.faults c.args.net.now) (g.N.Net.faults c.args.net.now)
    (g.N.Net.lost c.args.net.now) (g.N.Net.lost c.args.net.now) c.status_of-in-Trial.result c.in-Trial.orders c.trial.result c.status_of-in-Trial.ensures c.trial.ensures.complete)

pub returns-in-Show-clause-complete : goal.returns-in-Show-clause-complete
returns-in-Show-clause-complete g c =
    let d = g.D.Disk.view c.args.disk.now in
    let e = g.D.Disk.view c.args.disk.now in
    let b = devices (g.M.Medium.strings c.args.medium.now) (g.P.Disk.view c.args.first.now) (g.P.Disk.view c.args.second.now) in
    let held = g.S.Source.held c.args.input.now in
    of_command c.args.asked.now command.Show d b held
    (record { input = g.S.Source.read_faults c.args.input.now; output = g.K.Sink.write_faults c.args.out.now; disk = (g.D.Disk.view c.args.disk.now).faults; net = g.N.Net.faults c.args.net.now; lost = g.N.Net.lost c.args.net.now })
    (record { input = g.S.Source.read_faults c.show.new.input; output = g.K.Sink.write_faults c.show.new.out; disk = (g.D.Disk.view c.args.disk.now).faults; net = g.N.Net.faults c.args.net.now; lost = g.N.Net.lost c.args.net.now })
    c.show.result c.in-Show.is
    (show_completes d e b held (g.S.Source.read_faults c.args.input.now) (g.S.Source.read_faults c.show.new.input)
    (g.K.Sink.write_faults c.args.out.now) (g.K.Sink.write_faults c.show.new.out) (g.N.Net.faults c.args.net.now) (g.N.Net.faults c.args.net.now)
    (g.N.Net.lost c.args.net.now) (g.N.Net.lost c.args.net.now) c.show.result (g.S.Source.held c.show.new.input) (g.K.Sink.taken c.args.out.now) (g.K.Sink.taken c.show.new.out) c.show.ensures.shown c.show.ensures.read_fault c.show.ensures.write_fault)

pub returns-in-Init-clause-complete : goal.returns-in-Init-clause-complete
returns-in-Init-clause-complete g c =
    let d = g.D.Disk.view c.args.disk.now in
    let e = g.D.Disk.view c.say_formatted.new.disk in
    let b = devices (g.M.Medium.strings c.args.medium.now) (g.P.Disk.view c.args.first.now) (g.P.Disk.view c.args.second.now) in
    let held = g.S.Source.held c.args.input.now in
    of_command c.args.asked.now (command.Init c.in-Init.identity) d b held
    (record { input = g.S.Source.read_faults c.args.input.now; output = g.K.Sink.write_faults c.args.out.now; disk = (g.D.Disk.view c.args.disk.now).faults; net = g.N.Net.faults c.args.net.now; lost = g.N.Net.lost c.args.net.now })
    (record { input = g.S.Source.read_faults c.args.input.now; output = g.K.Sink.write_faults c.say_formatted.new.out; disk = (g.D.Disk.view c.say_formatted.new.disk).faults; net = g.N.Net.faults c.args.net.now; lost = g.N.Net.lost c.args.net.now })
    c.say_formatted.result c.in-Init.is
    (init_completes d e b held (g.S.Source.read_faults c.args.input.now) (g.S.Source.read_faults c.args.input.now)
    (g.K.Sink.write_faults c.args.out.now) (g.K.Sink.write_faults c.say_formatted.new.out) (g.N.Net.faults c.args.net.now) (g.N.Net.faults c.args.net.now)
    (g.N.Net.lost c.args.net.now) (g.N.Net.lost c.args.net.now) c.say_formatted.result c.in-Init.identity (g.K.Sink.taken c.args.out.now) (g.K.Sink.taken c.say_formatted.new.out) c.say_formatted.ensures.says c.say_formatted.ensures.cause)

pub returns-in-Call-clause-complete : goal.returns-in-Call-clause-complete
returns-in-Call-clause-complete g c =
    let d = g.D.Disk.view c.args.disk.now in
    let e = g.D.Disk.view c.say_called.new.disk in
    let b = devices (g.M.Medium.strings c.args.medium.now) (g.P.Disk.view c.args.first.now) (g.P.Disk.view c.args.second.now) in
    let held = g.S.Source.held c.args.input.now in
    of_command c.args.asked.now (command.Call c.in-Call.call) d b held
    (record { input = g.S.Source.read_faults c.args.input.now; output = g.K.Sink.write_faults c.args.out.now; disk = (g.D.Disk.view c.args.disk.now).faults; net = g.N.Net.faults c.args.net.now; lost = g.N.Net.lost c.args.net.now })
    (record { input = g.S.Source.read_faults c.args.input.now; output = g.K.Sink.write_faults c.say_called.new.out; disk = (g.D.Disk.view c.say_called.new.disk).faults; net = g.N.Net.faults c.args.net.now; lost = g.N.Net.lost c.args.net.now })
    c.say_called.result c.in-Call.is
    (call_completes d e b held (g.S.Source.read_faults c.args.input.now) (g.S.Source.read_faults c.args.input.now)
    (g.K.Sink.write_faults c.args.out.now) (g.K.Sink.write_faults c.say_called.new.out) (g.N.Net.faults c.args.net.now) (g.N.Net.faults c.args.net.now)
    (g.N.Net.lost c.args.net.now) (g.N.Net.lost c.args.net.now) c.say_called.result c.in-Call.call (g.C.Clock.steady c.args.clock.now) (g.K.Sink.taken c.args.out.now) (g.K.Sink.taken c.say_called.new.out) c.say_called.ensures.says c.say_called.ensures.cause)

pub returns-in-Checkpoint-clause-complete : goal.returns-in-Checkpoint-clause-complete
returns-in-Checkpoint-clause-complete g c =
    let d = g.D.Disk.view c.args.disk.now in
    let e = g.D.Disk.view c.say_checkpointed.new.disk in
    let b = devices (g.M.Medium.strings c.args.medium.now) (g.P.Disk.view c.args.first.now) (g.P.Disk.view c.args.second.now) in
    let held = g.S.Source.held c.args.input.now in
    of_command c.args.asked.now command.Checkpoint d b held
    (record { input = g.S.Source.read_faults c.args.input.now; output = g.K.Sink.write_faults c.args.out.now; disk = (g.D.Disk.view c.args.disk.now).faults; net = g.N.Net.faults c.args.net.now; lost = g.N.Net.lost c.args.net.now })
    (record { input = g.S.Source.read_faults c.args.input.now; output = g.K.Sink.write_faults c.say_checkpointed.new.out; disk = (g.D.Disk.view c.say_checkpointed.new.disk).faults; net = g.N.Net.faults c.args.net.now; lost = g.N.Net.lost c.args.net.now })
    c.say_checkpointed.result c.in-Checkpoint.is
    (checkpoint_completes d e b held (g.S.Source.read_faults c.args.input.now) (g.S.Source.read_faults c.args.input.now)
    (g.K.Sink.write_faults c.args.out.now) (g.K.Sink.write_faults c.say_checkpointed.new.out) (g.N.Net.faults c.args.net.now) (g.N.Net.faults c.args.net.now)
    (g.N.Net.lost c.args.net.now) (g.N.Net.lost c.args.net.now) c.say_checkpointed.result (g.K.Sink.taken c.args.out.now) (g.K.Sink.taken c.say_checkpointed.new.out) c.say_checkpointed.ensures.says c.say_checkpointed.ensures.cause)

pub returns-in-Peek-clause-complete : goal.returns-in-Peek-clause-complete
returns-in-Peek-clause-complete g c =
    let d = g.D.Disk.view c.args.disk.now in
    let e = g.D.Disk.view c.say_peeked.new.disk in
    let b = devices (g.M.Medium.strings c.args.medium.now) (g.P.Disk.view c.args.first.now) (g.P.Disk.view c.args.second.now) in
    let held = g.S.Source.held c.args.input.now in
    of_command c.args.asked.now (command.Peek c.in-Peek.place c.in-Peek.count) d b held
    (record { input = g.S.Source.read_faults c.args.input.now; output = g.K.Sink.write_faults c.args.out.now; disk = (g.D.Disk.view c.args.disk.now).faults; net = g.N.Net.faults c.args.net.now; lost = g.N.Net.lost c.args.net.now })
    (record { input = g.S.Source.read_faults c.args.input.now; output = g.K.Sink.write_faults c.say_peeked.new.out; disk = (g.D.Disk.view c.say_peeked.new.disk).faults; net = g.N.Net.faults c.args.net.now; lost = g.N.Net.lost c.args.net.now })
    c.say_peeked.result c.in-Peek.is
    (peek_completes d e b held (g.S.Source.read_faults c.args.input.now) (g.S.Source.read_faults c.args.input.now)
    (g.K.Sink.write_faults c.args.out.now) (g.K.Sink.write_faults c.say_peeked.new.out) (g.N.Net.faults c.args.net.now) (g.N.Net.faults c.args.net.now)
    (g.N.Net.lost c.args.net.now) (g.N.Net.lost c.args.net.now) c.say_peeked.result c.in-Peek.place c.in-Peek.count (g.C.Clock.steady c.args.clock.now) (g.K.Sink.taken c.args.out.now) (g.K.Sink.taken c.say_peeked.new.out) c.say_peeked.ensures.says c.say_peeked.ensures.cause)

pub returns-in-List-clause-complete : goal.returns-in-List-clause-complete
returns-in-List-clause-complete g c =
    let d = g.D.Disk.view c.args.disk.now in
    let e = g.D.Disk.view c.say_listed.new.disk in
    let b = devices (g.M.Medium.strings c.args.medium.now) (g.P.Disk.view c.args.first.now) (g.P.Disk.view c.args.second.now) in
    let held = g.S.Source.held c.args.input.now in
    of_command c.args.asked.now command.List d b held
    (record { input = g.S.Source.read_faults c.args.input.now; output = g.K.Sink.write_faults c.args.out.now; disk = (g.D.Disk.view c.args.disk.now).faults; net = g.N.Net.faults c.args.net.now; lost = g.N.Net.lost c.args.net.now })
    (record { input = g.S.Source.read_faults c.args.input.now; output = g.K.Sink.write_faults c.say_listed.new.out; disk = (g.D.Disk.view c.say_listed.new.disk).faults; net = g.N.Net.faults c.args.net.now; lost = g.N.Net.lost c.args.net.now })
    c.say_listed.result c.in-List.is
    (list_completes d e b held (g.S.Source.read_faults c.args.input.now) (g.S.Source.read_faults c.args.input.now)
    (g.K.Sink.write_faults c.args.out.now) (g.K.Sink.write_faults c.say_listed.new.out) (g.N.Net.faults c.args.net.now) (g.N.Net.faults c.args.net.now)
    (g.N.Net.lost c.args.net.now) (g.N.Net.lost c.args.net.now) c.say_listed.result (g.K.Sink.taken c.args.out.now) (g.K.Sink.taken c.say_listed.new.out) c.say_listed.ensures.says c.say_listed.ensures.cause)

pub returns-in-Probe-clause-complete : goal.returns-in-Probe-clause-complete
returns-in-Probe-clause-complete g c =
    let d = g.D.Disk.view c.args.disk.now in
    let e = g.D.Disk.view c.probe.new.disk in
    let b = devices (g.M.Medium.strings c.args.medium.now) (g.P.Disk.view c.args.first.now) (g.P.Disk.view c.args.second.now) in
    let held = g.S.Source.held c.args.input.now in
    of_command c.args.asked.now command.Probe d b held
    (record { input = g.S.Source.read_faults c.args.input.now; output = g.K.Sink.write_faults c.args.out.now; disk = (g.D.Disk.view c.args.disk.now).faults; net = g.N.Net.faults c.args.net.now; lost = g.N.Net.lost c.args.net.now })
    (record { input = g.S.Source.read_faults c.probe.new.input; output = g.K.Sink.write_faults c.probe.new.out; disk = (g.D.Disk.view c.probe.new.disk).faults; net = g.N.Net.faults c.args.net.now; lost = g.N.Net.lost c.args.net.now })
    c.probe.result c.in-Probe.is
    (probe_completes d e b held (g.S.Source.read_faults c.args.input.now) (g.S.Source.read_faults c.probe.new.input)
    (g.K.Sink.write_faults c.args.out.now) (g.K.Sink.write_faults c.probe.new.out) (g.N.Net.faults c.args.net.now) (g.N.Net.faults c.args.net.now)
    (g.N.Net.lost c.args.net.now) (g.N.Net.lost c.args.net.now) c.probe.result (g.C.Clock.steady c.args.clock.now) (g.S.Source.held c.probe.new.input) (g.K.Sink.taken c.args.out.now) (g.K.Sink.taken c.probe.new.out) c.probe.ensures.probes c.probe.ensures.complete)

pub returns-in-Shell-clause-complete : goal.returns-in-Shell-clause-complete
returns-in-Shell-clause-complete g c =
    let d = g.D.Disk.view c.args.disk.now in
    let e = g.D.Disk.view c.run_shell.new.disk in
    let b = devices (g.M.Medium.strings c.args.medium.now) (g.P.Disk.view c.args.first.now) (g.P.Disk.view c.args.second.now) in
    let held = g.S.Source.held c.args.input.now in
    of_command c.args.asked.now command.Shell d b held
    (record { input = g.S.Source.read_faults c.args.input.now; output = g.K.Sink.write_faults c.args.out.now; disk = (g.D.Disk.view c.args.disk.now).faults; net = g.N.Net.faults c.args.net.now; lost = g.N.Net.lost c.args.net.now })
    (record { input = g.S.Source.read_faults c.run_shell.new.input; output = g.K.Sink.write_faults c.run_shell.new.out; disk = (g.D.Disk.view c.run_shell.new.disk).faults; net = g.N.Net.faults c.run_shell.new.net; lost = g.N.Net.lost c.run_shell.new.net })
    c.run_shell.result c.in-Shell.is
    (shell_completes d e b held (g.S.Source.read_faults c.args.input.now) (g.S.Source.read_faults c.run_shell.new.input)
    (g.K.Sink.write_faults c.args.out.now) (g.K.Sink.write_faults c.run_shell.new.out) (g.N.Net.faults c.args.net.now) (g.N.Net.faults c.run_shell.new.net)
    (g.N.Net.lost c.args.net.now) (g.N.Net.lost c.run_shell.new.net) c.run_shell.result (g.C.Clock.steady c.args.clock.now) (g.S.Source.held c.run_shell.new.input)
    (g.K.Sink.taken c.args.out.now) (g.K.Sink.taken c.run_shell.new.out) (g.C.Clock.asked c.args.clock.now) (g.C.Clock.asked c.run_shell.new.clock) _
    c.run_shell.ensures.shell c.run_shell.ensures.ends c.run_shell.ensures.read_faults c.run_shell.ensures.write_faults c.run_shell.ensures.disk_faults)

pub returns-in-Serve-clause-complete : goal.returns-in-Serve-clause-complete
returns-in-Serve-clause-complete g c =
    let d = g.D.Disk.view c.args.disk.now in
    let e = g.D.Disk.view c.serve.new.disk in
    let b = devices (g.M.Medium.strings c.args.medium.now) (g.P.Disk.view c.args.first.now) (g.P.Disk.view c.args.second.now) in
    let held = g.S.Source.held c.args.input.now in
    of_command c.args.asked.now (command.Serve c.in-Serve.count) d b held
    (record { input = g.S.Source.read_faults c.args.input.now; output = g.K.Sink.write_faults c.args.out.now; disk = (g.D.Disk.view c.args.disk.now).faults; net = g.N.Net.faults c.args.net.now; lost = g.N.Net.lost c.args.net.now })
    (record { input = g.S.Source.read_faults c.args.input.now; output = g.K.Sink.write_faults c.serve.new.out; disk = (g.D.Disk.view c.serve.new.disk).faults; net = g.N.Net.faults c.serve.new.net; lost = g.N.Net.lost c.serve.new.net })
    c.serve.result c.in-Serve.is
    (serve_completes d e b held (g.S.Source.read_faults c.args.input.now) (g.S.Source.read_faults c.args.input.now)
    (g.K.Sink.write_faults c.args.out.now) (g.K.Sink.write_faults c.serve.new.out) (g.N.Net.faults c.args.net.now) (g.N.Net.faults c.serve.new.net)
    (g.N.Net.lost c.args.net.now) (g.N.Net.lost c.serve.new.net) c.serve.result c.in-Serve.count c.serve.ensures.complete)

pub returns-in-Attend-clause-complete : goal.returns-in-Attend-clause-complete
returns-in-Attend-clause-complete g c =
    let d = g.D.Disk.view c.args.disk.now in
    let e = g.D.Disk.view c.attend.new.disk in
    let b = devices (g.M.Medium.strings c.args.medium.now) (g.P.Disk.view c.args.first.now) (g.P.Disk.view c.args.second.now) in
    let held = g.S.Source.held c.args.input.now in
    of_command c.args.asked.now (command.Attend c.in-Attend.seconds) d b held
    (record { input = g.S.Source.read_faults c.args.input.now; output = g.K.Sink.write_faults c.args.out.now; disk = (g.D.Disk.view c.args.disk.now).faults; net = g.N.Net.faults c.args.net.now; lost = g.N.Net.lost c.args.net.now })
    (record { input = g.S.Source.read_faults c.args.input.now; output = g.K.Sink.write_faults c.attend.new.out; disk = (g.D.Disk.view c.attend.new.disk).faults; net = g.N.Net.faults c.attend.new.net; lost = g.N.Net.lost c.attend.new.net })
    c.attend.result c.in-Attend.is
    (attend_completes d e b held (g.S.Source.read_faults c.args.input.now) (g.S.Source.read_faults c.args.input.now)
    (g.K.Sink.write_faults c.args.out.now) (g.K.Sink.write_faults c.attend.new.out) (g.N.Net.faults c.args.net.now) (g.N.Net.faults c.attend.new.net)
    (g.N.Net.lost c.args.net.now) (g.N.Net.lost c.attend.new.net) c.attend.result c.in-Attend.seconds c.attend.ensures.complete)

pub returns-in-Push-clause-complete : goal.returns-in-Push-clause-complete
returns-in-Push-clause-complete g c =
    let d = g.D.Disk.view c.args.disk.now in
    let e = g.D.Disk.view c.reach.new.disk in
    let b = devices (g.M.Medium.strings c.args.medium.now) (g.P.Disk.view c.args.first.now) (g.P.Disk.view c.args.second.now) in
    let held = g.S.Source.held c.args.input.now in
    of_command c.args.asked.now (command.Push c.in-Push.host c.in-Push.address) d b held
    (record { input = g.S.Source.read_faults c.args.input.now; output = g.K.Sink.write_faults c.args.out.now; disk = (g.D.Disk.view c.args.disk.now).faults; net = g.N.Net.faults c.args.net.now; lost = g.N.Net.lost c.args.net.now })
    (record { input = g.S.Source.read_faults c.args.input.now; output = g.K.Sink.write_faults c.reach.new.out; disk = (g.D.Disk.view c.reach.new.disk).faults; net = g.N.Net.faults c.reach.new.net; lost = g.N.Net.lost c.reach.new.net })
    c.reach.result c.in-Push.is
    (push_completes d e b held (g.S.Source.read_faults c.args.input.now) (g.S.Source.read_faults c.args.input.now)
    (g.K.Sink.write_faults c.args.out.now) (g.K.Sink.write_faults c.reach.new.out) (g.N.Net.faults c.args.net.now) (g.N.Net.faults c.reach.new.net)
    (g.N.Net.lost c.args.net.now) (g.N.Net.lost c.reach.new.net) c.reach.result c.in-Push.host c.in-Push.address (g.N.Net.finished c.args.net.now) (g.N.Net.finished c.reach.new.net) (g.N.Net.idle c.args.net.now) (g.N.Net.idle c.reach.new.net) c.reach.ensures.complete)

pub returns-in-Fetch-clause-complete : goal.returns-in-Fetch-clause-complete
returns-in-Fetch-clause-complete g c =
    let d = g.D.Disk.view c.args.disk.now in
    let e = g.D.Disk.view c.reach-in-Fetch.new.disk in
    let b = devices (g.M.Medium.strings c.args.medium.now) (g.P.Disk.view c.args.first.now) (g.P.Disk.view c.args.second.now) in
    let held = g.S.Source.held c.args.input.now in
    of_command c.args.asked.now (command.Fetch c.in-Fetch.host c.in-Fetch.address _) d b held
    (record { input = g.S.Source.read_faults c.args.input.now; output = g.K.Sink.write_faults c.args.out.now; disk = (g.D.Disk.view c.args.disk.now).faults; net = g.N.Net.faults c.args.net.now; lost = g.N.Net.lost c.args.net.now })
    (record { input = g.S.Source.read_faults c.args.input.now; output = g.K.Sink.write_faults c.reach-in-Fetch.new.out; disk = (g.D.Disk.view c.reach-in-Fetch.new.disk).faults; net = g.N.Net.faults c.reach-in-Fetch.new.net; lost = g.N.Net.lost c.reach-in-Fetch.new.net })
    c.reach-in-Fetch.result c.in-Fetch.is
    (fetch_completes d e b held (g.S.Source.read_faults c.args.input.now) (g.S.Source.read_faults c.args.input.now)
    (g.K.Sink.write_faults c.args.out.now) (g.K.Sink.write_faults c.reach-in-Fetch.new.out) (g.N.Net.faults c.args.net.now) (g.N.Net.faults c.reach-in-Fetch.new.net)
    (g.N.Net.lost c.args.net.now) (g.N.Net.lost c.reach-in-Fetch.new.net) c.reach-in-Fetch.result c.in-Fetch.host c.in-Fetch.address _ (g.N.Net.finished c.args.net.now) (g.N.Net.finished c.reach-in-Fetch.new.net) (g.N.Net.idle c.args.net.now) (g.N.Net.idle c.reach-in-Fetch.new.net) c.reach-in-Fetch.ensures.complete)

pub returns-in-Help-clause-complete : goal.returns-in-Help-clause-complete
returns-in-Help-clause-complete g c =
    let d = g.D.Disk.view c.args.disk.now in
    let e = g.D.Disk.view c.args.disk.now in
    let b = devices (g.M.Medium.strings c.args.medium.now) (g.P.Disk.view c.args.first.now) (g.P.Disk.view c.args.second.now) in
    let held = g.S.Source.held c.args.input.now in
    of_command c.args.asked.now command.Help d b held
    (record { input = g.S.Source.read_faults c.args.input.now; output = g.K.Sink.write_faults c.args.out.now; disk = (g.D.Disk.view c.args.disk.now).faults; net = g.N.Net.faults c.args.net.now; lost = g.N.Net.lost c.args.net.now })
    (record { input = g.S.Source.read_faults c.args.input.now; output = g.K.Sink.write_faults c.tell.new.out; disk = (g.D.Disk.view c.args.disk.now).faults; net = g.N.Net.faults c.args.net.now; lost = g.N.Net.lost c.args.net.now })
    c.tell.result c.in-Help.is
    (help_completes d e b held (g.S.Source.read_faults c.args.input.now) (g.S.Source.read_faults c.args.input.now)
    (g.K.Sink.write_faults c.args.out.now) (g.K.Sink.write_faults c.tell.new.out) (g.N.Net.faults c.args.net.now) (g.N.Net.faults c.args.net.now)
    (g.N.Net.lost c.args.net.now) (g.N.Net.lost c.args.net.now) c.tell.result _ (g.K.Sink.taken c.args.out.now) (g.K.Sink.taken c.tell.new.out) c.tell.ensures.told c.tell.ensures.cause)

pub returns-in-Version-clause-complete : goal.returns-in-Version-clause-complete
returns-in-Version-clause-complete g c =
    let d = g.D.Disk.view c.args.disk.now in
    let e = g.D.Disk.view c.args.disk.now in
    let b = devices (g.M.Medium.strings c.args.medium.now) (g.P.Disk.view c.args.first.now) (g.P.Disk.view c.args.second.now) in
    let held = g.S.Source.held c.args.input.now in
    of_command c.args.asked.now command.Version d b held
    (record { input = g.S.Source.read_faults c.args.input.now; output = g.K.Sink.write_faults c.args.out.now; disk = (g.D.Disk.view c.args.disk.now).faults; net = g.N.Net.faults c.args.net.now; lost = g.N.Net.lost c.args.net.now })
    (record { input = g.S.Source.read_faults c.args.input.now; output = g.K.Sink.write_faults c.tell-in-Version.new.out; disk = (g.D.Disk.view c.args.disk.now).faults; net = g.N.Net.faults c.args.net.now; lost = g.N.Net.lost c.args.net.now })
    c.tell-in-Version.result c.in-Version.is
    (version_completes d e b held (g.S.Source.read_faults c.args.input.now) (g.S.Source.read_faults c.args.input.now)
    (g.K.Sink.write_faults c.args.out.now) (g.K.Sink.write_faults c.tell-in-Version.new.out) (g.N.Net.faults c.args.net.now) (g.N.Net.faults c.args.net.now)
    (g.N.Net.lost c.args.net.now) (g.N.Net.lost c.args.net.now) c.tell-in-Version.result _ (g.K.Sink.taken c.args.out.now) (g.K.Sink.taken c.tell-in-Version.new.out) c.tell-in-Version.ensures.told c.tell-in-Version.ensures.cause)

pub returns-in-Replay-clause-does : goal.returns-in-Replay-clause-does
returns-in-Replay-clause-does g c = replay_does c.args.asked.now _ c.replay.result c.status_of.result c.in-Replay.is c.status_of.ensures c.replay.ensures.replayed

pub returns-in-Replay-clause-usage : goal.returns-in-Replay-clause-usage
returns-in-Replay-clause-usage g c = replay_usage _ c.replay.result c.status_of.result c.status_of.ensures

pub returns-in-Replay-clause-read_fault : goal.returns-in-Replay-clause-read_fault
returns-in-Replay-clause-read_fault g c = replay_read _ _ c.replay.result c.status_of.result c.status_of.ensures c.replay.ensures.read

pub returns-in-Replay-clause-write_fault : goal.returns-in-Replay-clause-write_fault
returns-in-Replay-clause-write_fault g c = replay_write _ _ c.replay.result c.status_of.result c.status_of.ensures c.replay.ensures.write

pub returns-in-Replay-clause-disk_fault : goal.returns-in-Replay-clause-disk_fault
returns-in-Replay-clause-disk_fault g c =
    replay_disk (devices (g.M.Medium.strings c.args.medium.now) (g.P.Disk.view c.args.first.now) (g.P.Disk.view c.args.second.now))
    (devices (g.M.Medium.strings c.replay.new.medium) (g.P.Disk.view c.replay.new.first) (g.P.Disk.view c.replay.new.second))
    (g.K.Sink.taken c.args.out.now) (g.K.Sink.taken c.replay.new.out) c.replay.result c.args.asked.now (g.D.Disk.view c.args.disk.now).faults (g.D.Disk.view c.args.disk.now).faults
    (g.S.Source.held c.args.input.now) (g.S.Source.held c.replay.new.input) c.status_of.result c.in-Replay.is c.status_of.ensures c.replay.ensures.replayed

pub returns-in-Replay-clause-net_fault : goal.returns-in-Replay-clause-net_fault
returns-in-Replay-clause-net_fault g c = replay_net _ c.replay.result c.status_of.result c.status_of.ensures

pub returns-in-Trial-clause-does : goal.returns-in-Trial-clause-does
returns-in-Trial-clause-does g c = trial_does c.args.asked.now c.in-Trial.orders _ c.trial.result c.status_of-in-Trial.result c.in-Trial.is c.status_of-in-Trial.ensures c.trial.ensures.tried

pub returns-in-Trial-clause-usage : goal.returns-in-Trial-clause-usage
returns-in-Trial-clause-usage g c = replay_usage _ c.trial.result c.status_of-in-Trial.result c.status_of-in-Trial.ensures

pub returns-in-Trial-clause-read_fault : goal.returns-in-Trial-clause-read_fault
returns-in-Trial-clause-read_fault g c = replay_read _ _ c.trial.result c.status_of-in-Trial.result c.status_of-in-Trial.ensures (λ is. absurd (trial_read _ _ _ _ c.trial.result c.in-Trial.orders c.trial.ensures.tried is))

pub returns-in-Trial-clause-write_fault : goal.returns-in-Trial-clause-write_fault
returns-in-Trial-clause-write_fault g c = replay_write _ _ c.trial.result c.status_of-in-Trial.result c.status_of-in-Trial.ensures c.trial.ensures.write

pub returns-in-Trial-clause-disk_fault : goal.returns-in-Trial-clause-disk_fault
returns-in-Trial-clause-disk_fault g c =
    trial_disk (devices (g.M.Medium.strings c.args.medium.now) (g.P.Disk.view c.args.first.now) (g.P.Disk.view c.args.second.now))
    (devices (g.M.Medium.strings c.trial.new.medium) (g.P.Disk.view c.trial.new.first) (g.P.Disk.view c.trial.new.second))
    (g.K.Sink.taken c.args.out.now) (g.K.Sink.taken c.trial.new.out) c.trial.result c.args.asked.now c.in-Trial.orders (g.D.Disk.view c.args.disk.now).faults
    (g.D.Disk.view c.args.disk.now).faults c.status_of-in-Trial.result c.in-Trial.is c.status_of-in-Trial.ensures c.trial.ensures.tried

pub returns-in-Trial-clause-net_fault : goal.returns-in-Trial-clause-net_fault
returns-in-Trial-clause-net_fault g c = replay_net _ c.trial.result c.status_of-in-Trial.result c.status_of-in-Trial.ensures

pub returns-in-Make-clause-disk_fault : goal.returns-in-Make-clause-disk_fault
returns-in-Make-clause-disk_fault g c = none_disk _ c.say_made.result c.say_made.ensures.disk

pub returns-in-Show-clause-disk_fault : goal.returns-in-Show-clause-disk_fault
returns-in-Show-clause-disk_fault g c = shows_disk _ _ _ _ _ c.show.result c.show.ensures.shown

pub returns-in-Init-clause-disk_fault : goal.returns-in-Init-clause-disk_fault
returns-in-Init-clause-disk_fault g c =
    store_disk c.args.asked.now (command.Init c.in-Init.identity) (g.D.Disk.view c.args.disk.now).faults (g.D.Disk.view c.say_formatted.new.disk).faults _ _ c.say_formatted.result c.in-Init.is refl c.say_formatted.ensures.disk

pub returns-in-Call-clause-disk_fault : goal.returns-in-Call-clause-disk_fault
returns-in-Call-clause-disk_fault g c =
    store_disk c.args.asked.now (command.Call c.in-Call.call) (g.D.Disk.view c.args.disk.now).faults (g.D.Disk.view c.say_called.new.disk).faults _ _ c.say_called.result c.in-Call.is refl c.say_called.ensures.disk

pub returns-in-Checkpoint-clause-disk_fault : goal.returns-in-Checkpoint-clause-disk_fault
returns-in-Checkpoint-clause-disk_fault g c =
    store_disk c.args.asked.now command.Checkpoint (g.D.Disk.view c.args.disk.now).faults (g.D.Disk.view c.say_checkpointed.new.disk).faults _ _ c.say_checkpointed.result c.in-Checkpoint.is refl c.say_checkpointed.ensures.disk

pub returns-in-Peek-clause-disk_fault : goal.returns-in-Peek-clause-disk_fault
returns-in-Peek-clause-disk_fault g c =
    store_disk c.args.asked.now (command.Peek c.in-Peek.place c.in-Peek.count) (g.D.Disk.view c.args.disk.now).faults (g.D.Disk.view c.say_peeked.new.disk).faults _ _ c.say_peeked.result c.in-Peek.is refl c.say_peeked.ensures.disk

pub returns-in-List-clause-disk_fault : goal.returns-in-List-clause-disk_fault
returns-in-List-clause-disk_fault g c =
    store_disk c.args.asked.now command.List (g.D.Disk.view c.args.disk.now).faults (g.D.Disk.view c.say_listed.new.disk).faults _ _ c.say_listed.result c.in-List.is refl c.say_listed.ensures.disk

pub returns-in-Probe-clause-disk_fault : goal.returns-in-Probe-clause-disk_fault
returns-in-Probe-clause-disk_fault g c =
    store_disk c.args.asked.now command.Probe (g.D.Disk.view c.args.disk.now).faults (g.D.Disk.view c.probe.new.disk).faults _ _ c.probe.result c.in-Probe.is refl c.probe.ensures.disk_faults

pub returns-in-Shell-clause-disk_fault : goal.returns-in-Shell-clause-disk_fault
returns-in-Shell-clause-disk_fault g c =
    store_disk c.args.asked.now command.Shell (g.D.Disk.view c.args.disk.now).faults (g.D.Disk.view c.run_shell.new.disk).faults _ _ c.run_shell.result c.in-Shell.is refl c.run_shell.ensures.disk_faults

pub returns-in-Serve-clause-disk_fault : goal.returns-in-Serve-clause-disk_fault
returns-in-Serve-clause-disk_fault g c =
    store_disk c.args.asked.now (command.Serve c.in-Serve.count) (g.D.Disk.view c.args.disk.now).faults (g.D.Disk.view c.serve.new.disk).faults _ _ c.serve.result c.in-Serve.is refl c.serve.ensures.disk_faults

pub returns-in-Attend-clause-disk_fault : goal.returns-in-Attend-clause-disk_fault
returns-in-Attend-clause-disk_fault g c =
    store_disk c.args.asked.now (command.Attend c.in-Attend.seconds) (g.D.Disk.view c.args.disk.now).faults (g.D.Disk.view c.attend.new.disk).faults _ _ c.attend.result c.in-Attend.is refl c.attend.ensures.disk_faults

pub returns-in-Push-clause-disk_fault : goal.returns-in-Push-clause-disk_fault
returns-in-Push-clause-disk_fault g c =
    store_disk c.args.asked.now (command.Push c.in-Push.host c.in-Push.address) (g.D.Disk.view c.args.disk.now).faults (g.D.Disk.view c.reach.new.disk).faults _ _ c.reach.result c.in-Push.is refl c.reach.ensures.disk_faults

pub returns-in-Fetch-clause-disk_fault : goal.returns-in-Fetch-clause-disk_fault
returns-in-Fetch-clause-disk_fault g c =
    store_disk c.args.asked.now (command.Fetch c.in-Fetch.host c.in-Fetch.address _) (g.D.Disk.view c.args.disk.now).faults (g.D.Disk.view c.reach-in-Fetch.new.disk).faults _ _ c.reach-in-Fetch.result c.in-Fetch.is refl c.reach-in-Fetch.ensures.disk_faults

pub returns-in-Help-clause-disk_fault : goal.returns-in-Help-clause-disk_fault
returns-in-Help-clause-disk_fault g c = told_disk _ _ _ _ _ c.tell.result c.tell.ensures.told tt

pub returns-in-Version-clause-disk_fault : goal.returns-in-Version-clause-disk_fault
returns-in-Version-clause-disk_fault g c = told_disk _ _ _ _ _ c.tell-in-Version.result c.tell-in-Version.ensures.told tt
