use Rattle.std.proofs.Common.{refl}
use Rattle.std.proofs.lemmas.Result.{err_from_is_err_and}
use Rattle.mqb_replay.proofs.Before.{begun, err_world, not_begun, tries_before}
use Rattle.mqb_replay.specs.Devices.{Devices, devices}
use Rattle.mqb_replay.specs.Trials.{TriesLines}
use Rattle.mqb_replay.proofs.trials.try_lines.Goals as goal

pub returns-in_err-world-clause-tried : goal.returns-in_err-world-clause-tried
returns-in_err-world-clause-tried g c =
    let p = err_from_is_err_and c.from_residual.result c.from_residual.ensures.1 in
    let b : Devices = devices (g.M.Medium.strings c.args.medium.now) (g.P.Disk.view c.args.first.now) (g.P.Disk.view c.args.second.now) in
    let a : Devices = devices (g.M.Medium.strings c.args.medium.now) (g.P.Disk.view c.new.new.first) (g.P.Disk.view c.new.new.second) in
    rw (p.1, p.2) (not_begun (TriesLines c.args.script.now) b a (g.K.Sink.taken c.args.out.now) (g.K.Sink.taken c.args.out.now)
    (record {
      strings = refl;
      alpha_switch = c.in_err-world.ensures.alpha_switch;
      beta_switch = c.in_err-world.ensures.beta_switch;
      kept = c.in_err-world.ensures.kept;
      output = refl;
    })
    c.in_err-world.field-0.0 (λ is. c.in_err-world.ensures.not_empty (err_world _ _ is)) (λ is. c.in_err-world.ensures.disk_fault (err_world _ _ is))
    (λ is. c.in_err-world.ensures.memory (err_world _ _ is)) (λ is. c.in_err-world.ensures.never (err_world _ _ is)))

pub returns-clause-tried : goal.returns-clause-tried
returns-clause-tried g c =
    let b : Devices = devices (g.M.Medium.strings c.args.medium.now) (g.P.Disk.view c.args.first.now) (g.P.Disk.view c.args.second.now) in
    let d : Devices = devices (g.M.Medium.strings c.args.medium.now) (g.P.Disk.view c.new.new.first) (g.P.Disk.view c.new.new.second) in
    let a : Devices = devices (g.M.Medium.strings c.try_in-tried.new.medium) (g.P.Disk.view c.try_in-tried.new.first) (g.P.Disk.view c.try_in-tried.new.second) in
    begun (TriesLines c.args.script.now) b a (g.K.Sink.taken c.args.out.now) (g.K.Sink.taken c.try_in-tried.new.out) (λ none. none) (λ none. none) c.in_ok-world.ensures.empty
    c.try_in-tried.result
    (tries_before b d a c.in_ok-world.ensures.alpha_faults c.in_ok-world.ensures.beta_faults c.in_ok-world.ensures.alpha_switch c.in_ok-world.ensures.beta_switch c.args.script.now
    (g.K.Sink.taken c.args.out.now) (g.K.Sink.taken c.try_in-tried.new.out) c.try_in-tried.result c.try_in-tried.ensures.tried)
