use Rattle.mqb_replay.proofs.Causing.{write_cause}
use Rattle.mqb_replay.proofs.Completing.{completes}
use Rattle.mqb_replay.proofs.Telling.{told_read}
use Rattle.mqb_replay.specs.Devices.{Devices, devices}
use Rattle.mqb_replay.proofs.replaying.replay.Goals as goal

pub returns-clause-complete : goal.returns-clause-complete
returns-clause-complete g c =
    let b : Devices = devices (g.M.Medium.strings c.args.medium.now) (g.P.Disk.view c.args.first.now) (g.P.Disk.view c.args.second.now) in
    let a : Devices = devices (g.M.Medium.strings c.read_and_play-end.new.medium) (g.P.Disk.view c.read_and_play-end.new.first) (g.P.Disk.view c.read_and_play-end.new.second) in
    completes (g.S.Source.held c.args.input.now) (g.S.Source.held c.read_and_play-end.new.input) (g.K.Sink.taken c.args.out.now) (g.K.Sink.taken c.tell.new.out) b a
    (g.S.Source.read_faults c.args.input.now) (g.S.Source.read_faults c.read_and_play-end.new.input) (g.K.Sink.write_faults c.args.out.now) (g.K.Sink.write_faults c.tell.new.out) c.tell.result
    (g.met.P.Power.tells c.args.first.now) (g.met.P.Power.tells c.args.second.now)
    (λ is. c.read_and_play-end.ensures.read (told_read c.read_and_play-end.result c.tell.result (g.K.Sink.taken c.read_and_play-end.new.out) (g.K.Sink.taken c.tell.new.out) c.tell.ensures.told is))
    (write_cause (g.K.Sink.write_faults c.args.out.now) (g.K.Sink.write_faults c.read_and_play-end.new.out) (g.K.Sink.write_faults c.tell.new.out) c.read_and_play-end.result c.tell.result
    c.read_and_play-end.ensures.write c.tell.ensures.cause)
    (record { taken = g.K.Sink.taken c.read_and_play-end.new.out; end = c.read_and_play-end.result; ends = c.read_and_play-end.ensures.ends; told = c.tell.ensures.told })
