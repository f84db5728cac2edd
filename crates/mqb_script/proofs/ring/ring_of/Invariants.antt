use Rattle.std.proofs.Common.{◌≡◌, ◌+◌, drop, map}
use Rattle.mqb_script.specs.Ring.{ring_from, ring_of}
use Rattle.mqb_script.proofs.ring.ring_of.Given as goal

abbrev pub invariant-loop-line : goal.invariant-loop-line
invariant-loop-line l = record {
  counted : l.number ≡ l.line-index;
  read : ring_of l.text ≡ ring_from (l.number + 1) (map (λ line. line.now) (drop l.line-index l.line-items));
}
