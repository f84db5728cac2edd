use Rattle.std.proofs.Common.{List, length, refl, subst}
use Rattle.mqb_base.specs.declared.ledger.Line.{Line}
use Rattle.mqb_replay.specs.Devices.{Devices, devices}
use Rattle.mqb_replay.specs.Plays.{Wrote}
use Rattle.mqb_replay.specs.Trials.{trial_text}
use Rattle.mqb_replay.proofs.Trying.{tried}
use Rattle.mqb_replay.proofs.trials.try_in.Goals as goal

pub returns-clause-tried : goal.returns-clause-tried
returns-clause-tried g c =
    let b : Devices = devices (g.M.Medium.strings c.args.medium.now) (g.P.Disk.view c.args.first.now) (g.P.Disk.view c.args.second.now) in
    let a : Devices = devices (g.M.Medium.strings c.play_lines.new.medium) (g.P.Disk.view c.play_lines.new.first) (g.P.Disk.view c.play_lines.new.second) in
    tried c.runs_keep_guarantees.ensures c.args.script.now c.play_lines.new.world b a (g.K.Sink.taken c.args.out.now) (g.K.Sink.taken c.write_trial.new.out)
    c.in_ok-play_lines.ensures.played.0 c.write_trial.result (length c.args.script.now) refl
    (subst (λ (l : List Line). Wrote (g.K.Sink.taken c.args.out.now) (g.K.Sink.taken c.write_trial.new.out) (trial_text (length c.args.script.now) l) c.write_trial.result)
    c.ledger.ensures c.write_trial.ensures.wrote)
