use Rattle.std.proofs.Common.{◌≡◌, ◌++◌, drop, map}
use Rattle.std.specs.List.{enumerate_from, filter_map}
use Rattle.mqb_model.specs.calls.pump.Pump.{mark_for, marks_for}
use Rattle.mqb_choosing.specs.Choices.{shown_in}
use Rattle.mqb_choosing.proofs.marks.marks_for.Given as goal

abbrev pub invariant-loop-k : goal.invariant-loop-k
invariant-loop-k l = record {
  left : l.marks.items ++ filter_map (mark_for (map (λ given. given.0) (shown_in l.contents.lists l.choices.choices))) (enumerate_from l.k (drop l.k l.contents.lists.outs))
      ≡ marks_for l.contents.lists (map (λ given. given.0) (shown_in l.contents.lists l.choices.choices));
}
