use Rattle.std.proofs.Common.{◌≡◌, false, take}
use Rattle.std.specs.List.{list_any}
use Rattle.mqb_model.specs.records.Finals.{names_kept}
use Rattle.mqb_arrivals.proofs.kept.keeps_named.Given as goal

abbrev pub invariant-loop-at : goal.invariant-loop-at
invariant-loop-at l = list_any (names_kept l.id) (take l.at l.kept.items) ≡ false
