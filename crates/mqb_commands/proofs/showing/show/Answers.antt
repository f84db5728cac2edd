use Rattle.mqb_commands.proofs.Ending.{done_shows, fault_cause, stop_shows}
use Rattle.mqb_commands.proofs.showing.show.Goals as goal

pub returns-in-Ok-clause-shown : goal.returns-in-Ok-clause-shown
returns-in-Ok-clause-shown g c =
    done_shows (g.S.Source.held c.args.input.now) (g.S.Source.held c.show_all.new.input) (g.K.Sink.taken c.args.out.now) (g.K.Sink.taken c.show_all.new.out) c.in-Ok.ensures.shown

pub returns-in-Err-clause-shown : goal.returns-in-Err-clause-shown
returns-in-Err-clause-shown g c =
    stop_shows (g.S.Source.held c.args.input.now) (g.S.Source.held c.show_all.new.input) (g.K.Sink.taken c.args.out.now) (g.K.Sink.taken c.show_all.new.out)
    (g.K.Sink.taken c.stop.new.out) c.in-Err.fault c.stop.result c.in-Err.ensures.shown c.stop.ensures.stopped

pub returns-in-Err-clause-write_fault : goal.returns-in-Err-clause-write_fault
returns-in-Err-clause-write_fault g c =
    fault_cause (g.S.Source.read_faults c.args.input.now) (g.S.Source.read_faults c.show_all.new.input) (g.K.Sink.write_faults c.args.out.now)
    (g.K.Sink.write_faults c.show_all.new.out) (g.K.Sink.write_faults c.stop.new.out) (g.K.Sink.taken c.show_all.new.out) (g.K.Sink.taken c.stop.new.out) c.in-Err.fault c.stop.result
    c.in-Err.ensures.causes c.stop.ensures.cause c.stop.ensures.same c.stop.ensures.stopped
