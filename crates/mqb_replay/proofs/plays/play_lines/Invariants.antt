use Rattle.std.proofs.Common.{◌≡◌, drop, take}
use Rattle.std.specs.List.{AllByRecursion}
use Rattle.mqb_world.specs.mqb_runs.Hosts.{hosts}
use Rattle.mqb_script.specs.Formed.{IsFormed}
use Rattle.mqb_script.specs.declared.grammar.Grammar.TheVariants.{Pair}
use Rattle.mqb_replay.specs.Devices.{devices}
use Rattle.mqb_replay.specs.Plays.{HasPlayed}
use Rattle.mqb_replay.proofs.plays.play_lines.Given as goal

abbrev pub invariant-loop-line : goal.invariant-loop-line
invariant-loop-line g l =
    record {
      played : HasPlayed (take l.line-index l.script) l.world (devices (g.M.Medium.strings l.fn.medium) (g.P.Disk.view l.fn.first) (g.P.Disk.view l.fn.second))
          (devices (g.M.Medium.strings l.medium) (g.P.Disk.view l.first) (g.P.Disk.view l.second)) (g.K.Sink.taken l.fn.out) (g.K.Sink.taken l.out);
      formed : AllByRecursion (λ line. IsFormed Pair line.1) (drop l.line-index l.script);
      hosts : l.hosts.items ≡ hosts;
      faults : g.K.Sink.write_faults l.out ≡ g.K.Sink.write_faults l.fn.out;
    }
