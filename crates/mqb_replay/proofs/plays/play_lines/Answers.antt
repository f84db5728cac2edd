use Rattle.std.proofs.Common.{◌+◌, List, arith, drop, refl, subst, sym, take, take_all, ◌∙◌, ℕ}
use Rattle.std.proofs.lemmas.Result.{err_from_is_err_and}
use Rattle.std.specs.List.{AllByRecursion}
use Rattle.std.specs.Prelude.{Err}
use Rattle.mqb_script.specs.Formed.{IsFormed}
use Rattle.mqb_script.specs.declared.grammar.Grammar.TheVariants.{Pair}
use Rattle.mqb_script.specs.declared.events.Event.{Event}
use Rattle.mqb_replay.specs.Devices.{Devices, devices}
use Rattle.mqb_replay.specs.Plays.{HasPlayed}
use Rattle.mqb_replay.proofs.Causing.{cause_then}
use Rattle.mqb_replay.proofs.Ending.{begins, none_played}
use Rattle.mqb_replay.proofs.Lines.{line_at, split_at, taken_one}
use Rattle.mqb_replay.proofs.Turning.{played_one, turn_stops}
use Rattle.mqb_replay.proofs.plays.play_lines.Goals as goal

pub returns-in_err-hosts-clause-played : goal.returns-in_err-hosts-clause-played
returns-in_err-hosts-clause-played g c =
    let p = err_from_is_err_and c.from_residual.result c.from_residual.ensures.1 in
    let b : Devices = devices (g.M.Medium.strings c.args.medium.now) (g.P.Disk.view c.args.first.now) (g.P.Disk.view c.args.second.now) in
    rw (p.1, p.2) (none_played c.runs_keep_guarantees.ensures c.args.script.now c.args.world.now b b (g.K.Sink.taken c.args.out.now) (g.K.Sink.taken c.args.out.now) c.requires.stands c.requires.alpha c.requires.beta
    refl refl refl refl refl)

pub loop-line-init : goal.loop-line-init
loop-line-init g c = record {
  played = begins c.args.world.now (devices (g.M.Medium.strings c.args.medium.now) (g.P.Disk.view c.args.first.now) (g.P.Disk.view c.args.second.now))
      (devices (g.M.Medium.strings c.args.medium.now) (g.P.Disk.view c.args.first.now) (g.P.Disk.view c.args.second.now)) (g.K.Sink.taken c.args.out.now)
      c.requires.stands c.requires.alpha c.requires.beta refl refl refl refl;
  formed = c.requires.formed;
  hosts = c.in_ok-hosts.ensures;
  faults = refl;
}

pub returns-in_err-turn-clause-played : goal.returns-in_err-turn-clause-played
returns-in_err-turn-clause-played g c =
    let lines : List (ℕ × Event) = c.args.script.now in
    let i : ℕ = c.loop-line.line-index in
    let line : ℕ × Event = c.line-item.result in
    let p = err_from_is_err_and c.from_residual-in_err-turn.result c.from_residual-in_err-turn.ensures.1 in
    rw (p.1, p.2) (turn_stops c.runs_keep_guarantees.ensures lines (take i lines) (drop (i + 1) lines) line (split_at lines i line c.loop-line-test.true c.line-item.is)
    c.loop-line.world c.turn.new.world _ _ _ (g.K.Sink.taken c.args.out.now) (g.K.Sink.taken c.loop-line.out) (g.K.Sink.taken c.turn.new.out)
    c.loop-line.invariant.played.0 c.loop-line.invariant.played.1 c.in_err-turn.field-0.0 c.in_err-turn.ensures.turned)

pub returns-in_err-turn-clause-cause : goal.returns-in_err-turn-clause-cause
returns-in_err-turn-clause-cause g c =
    let p = err_from_is_err_and c.from_residual-in_err-turn.result c.from_residual-in_err-turn.ensures.1 in
    rw (p.1, p.2) (cause_then (g.K.Sink.write_faults c.args.out.now) (g.K.Sink.write_faults c.loop-line.out) (g.K.Sink.write_faults c.turn.new.out) (Err c.in_err-turn.field-0.0)
    c.loop-line.invariant.faults c.in_err-turn.ensures.cause)

pub loop-line-preserved : goal.loop-line-preserved
loop-line-preserved g c =
    let lines : List (ℕ × Event) = c.args.script.now in
    let i : ℕ = c.loop-line.line-index in
    let line : ℕ × Event = c.line-item.result in
    let turned = c.in_ok-turn.ensures.turned in
    let b : Devices = devices (g.M.Medium.strings c.args.medium.now) (g.P.Disk.view c.args.first.now) (g.P.Disk.view c.args.second.now) in
    let a : Devices = devices (g.M.Medium.strings c.turn.new.medium) (g.P.Disk.view c.turn.new.first) (g.P.Disk.view c.turn.new.second) in
    record {
      played = subst (λ (ls : List (ℕ × Event)). HasPlayed ls c.turn.new.world b a (g.K.Sink.taken c.args.out.now) (g.K.Sink.taken c.turn.new.out))
          (sym (taken_one lines i line c.loop-line-test.true c.line-item.is))
          (played_one c.runs_keep_guarantees.ensures lines (take i lines) (drop (i + 1) lines) line (split_at lines i line c.loop-line-test.true c.line-item.is)
          c.loop-line.world c.turn.new.world _ _ _ (g.K.Sink.taken c.args.out.now) (g.K.Sink.taken c.loop-line.out) (g.K.Sink.taken c.turn.new.out)
          c.loop-line.invariant.played.0 c.loop-line.invariant.played.1 turned.0 turned.1 turned.2);
      formed = (subst (λ (ls : List (ℕ × Event)). AllByRecursion (λ l. IsFormed Pair l.1) ls) (line_at lines i line c.loop-line-test.true c.line-item.is)
          c.loop-line.invariant.formed).1;
      hosts = c.loop-line.invariant.hosts;
      faults = c.in_ok-turn.ensures.cause ∙ c.loop-line.invariant.faults;
    }

pub returns-clause-played : goal.returns-clause-played
returns-clause-played g c =
    let lines : List (ℕ × Event) = c.args.script.now in
    let i : ℕ = c.loop-line.line-index in
    let b : Devices = devices (g.M.Medium.strings c.args.medium.now) (g.P.Disk.view c.args.first.now) (g.P.Disk.view c.args.second.now) in
    let a : Devices = devices (g.M.Medium.strings c.loop-line.medium) (g.P.Disk.view c.loop-line.first) (g.P.Disk.view c.loop-line.second) in
    subst (λ (ls : List (ℕ × Event)). HasPlayed ls c.loop-line.world b a (g.K.Sink.taken c.args.out.now) (g.K.Sink.taken c.loop-line.out))
    (take_all i lines (omega arith)) c.loop-line.invariant.played
