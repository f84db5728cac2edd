use Rattle.mqb_work.proofs.Joining.{one_told}
use Rattle.mqb_work.proofs.Telling.{disk_behind, up_unless}
use Rattle.mqb_work.proofs.turns.turn_and_tell.Goals as goal

pub returns-clause-works : goal.returns-clause-works
returns-clause-works g c =
    one_told c.args.job.now c.args.hosts.now (g.C.Clock.steady c.args.clock.now) c.args.manager.now c.make_turn-answer.new.manager
    (g.K.Sink.taken c.args.out.now) (g.K.Sink.taken c.tell_turn.new.out) c.make_turn-answer.result c.tell_turn.result
    c.make_turn-answer.ensures.turn c.tell_turn.ensures.told

pub returns-clause-up : goal.returns-clause-up
returns-clause-up g c = up_unless c.make_turn-answer.result c.tell_turn.result c.tell_turn.ensures.stops c.make_turn-answer.ensures.up

pub returns-clause-disk_faults : goal.returns-clause-disk_faults
returns-clause-disk_faults g c =
    disk_behind c.args.hosts.now (g.D.Disk.view c.args.disk.now).faults (g.D.Disk.view c.make_turn-answer.new.disk).faults c.make_turn-answer.result
    (g.K.Sink.taken c.args.out.now) (g.K.Sink.taken c.tell_turn.new.out) c.tell_turn.result c.tell_turn.ensures.told c.make_turn-answer.ensures.disk_faults
