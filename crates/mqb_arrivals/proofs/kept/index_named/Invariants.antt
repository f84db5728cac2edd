use Rattle.std.proofs.Common.{◌≡◌, false, take}
use Rattle.std.specs.List.{list_any}
use Rattle.std.specs.Prelude.{◌&&◌, nat_le}
use Rattle.mqb_model.specs.records.Finals.{names_kept}
use Rattle.mqb_arrivals.proofs.kept.index_named.Given as goal

abbrev pub invariant-loop-at : goal.invariant-loop-at
invariant-loop-at l = list_any (λ k. names_kept l.id k && nat_le k.number l.offered) (take l.at l.kept.items) ≡ false
