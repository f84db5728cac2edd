use Rattle.mqb_replay.proofs.Causing.{write_cause}
use Rattle.mqb_replay.proofs.Completing.{trial_completes}
use Rattle.mqb_replay.specs.Devices.{Devices, devices}
use Rattle.mqb_replay.proofs.trials.trial.Goals as goal

pub returns-clause-complete : goal.returns-clause-complete
returns-clause-complete g c =
    let b : Devices = devices (g.M.Medium.strings c.args.medium.now) (g.P.Disk.view c.args.first.now) (g.P.Disk.view c.args.second.now) in
    let a : Devices = devices (g.M.Medium.strings c.make_and_try-end.new.medium) (g.P.Disk.view c.make_and_try-end.new.first) (g.P.Disk.view c.make_and_try-end.new.second) in
    trial_completes c.args.n (g.K.Sink.taken c.args.out.now) (g.K.Sink.taken c.tell.new.out) b a (g.K.Sink.write_faults c.args.out.now) (g.K.Sink.write_faults c.tell.new.out) c.tell.result
    (g.met.P.Power.tells c.args.first.now) (g.met.P.Power.tells c.args.second.now)
    (write_cause (g.K.Sink.write_faults c.args.out.now) (g.K.Sink.write_faults c.make_and_try-end.new.out) (g.K.Sink.write_faults c.tell.new.out) c.make_and_try-end.result c.tell.result
    c.make_and_try-end.ensures.cause c.tell.ensures.cause)
    (record { taken = g.K.Sink.taken c.make_and_try-end.new.out; end = c.make_and_try-end.result; ends = c.make_and_try-end.ensures.ends; told = c.tell.ensures.told })
