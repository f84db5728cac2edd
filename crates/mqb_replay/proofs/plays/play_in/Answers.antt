use Rattle.mqb_replay.proofs.Causing.{cause_then}
use Rattle.mqb_replay.proofs.Ending.{ended}
use Rattle.mqb_replay.proofs.plays.play_in.Goals as goal

pub returns-clause-played : goal.returns-clause-played
returns-clause-played g c = ended c.runs_keep_guarantees.ensures c.args.script.now c.play_lines.new.world _ _ (g.K.Sink.taken c.args.out.now) (g.K.Sink.taken c.play_lines.new.out)
    (g.K.Sink.taken c.write_end.new.out) c.in_ok-play_lines.ensures.played.0 c.in_ok-play_lines.ensures.played.1 c.write_end.result c.write_end.ensures.wrote

pub returns-clause-cause : goal.returns-clause-cause
returns-clause-cause g c = cause_then (g.K.Sink.write_faults c.args.out.now) (g.K.Sink.write_faults c.play_lines.new.out) (g.K.Sink.write_faults c.write_end.new.out) c.write_end.result c.in_ok-play_lines.ensures.cause c.write_end.ensures.cause
