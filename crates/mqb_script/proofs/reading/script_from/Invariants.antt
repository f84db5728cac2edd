use Rattle.std.proofs.Common.{◌≡◌, ◌+◌, map}
use Rattle.mqb_script.specs.Script.{script_from}
use Rattle.mqb_script.proofs.Gathered.{IsGathered}
use Rattle.mqb_script.proofs.reading.script_from.Given as goal

abbrev pub invariant-loop-line : goal.invariant-loop-line
invariant-loop-line l = record {
  counted : l.number ≡ l.before + l.line-index;
  read : IsGathered l.grammar (script_from l.grammar (l.before + 1) (map (λ line. line.now) l.lines)) (l.number + 1) l.line-index l.lines l.script;
}
