use Rattle.std.proofs.Common.{◌++◌, ◌≡◌, take}
use Rattle.std.specs.List.{filter_map, flat_map}
use Rattle.mqb_answers.specs.Texts.{body_line}
use Rattle.mqb_answers.specs.Told.{took}
use Rattle.mqb_answers.proofs.texts.put_ops.Given as goal

abbrev pub invariant-loop-done : goal.invariant-loop-done
invariant-loop-done l = l.text.items ≡ l.initial.text.items ++ flat_map body_line (filter_map took (take l.done-index l.ops))
