use Rattle.std.proofs.Common.{◌-◌, ◌≤◌, ◌<◌, All, drop, length, take}
use Rattle.mqb_choosing.proofs.candidates.first_above.Given as goal

abbrev pub invariant-loop-first : goal.invariant-loop-first
invariant-loop-first l = record {
  order : l.first ≤ l.end;
  within : l.end ≤ length l.kept.items;
  low : All (λ k. k.number ≤ l.number) (take l.first l.kept.items);
  high : All (λ k. l.number < k.number) (drop l.end l.kept.items);
}

abbrev pub decreases-loop-first : goal.decreases-loop-first
decreases-loop-first l = l.end - l.first
