use Rattle.std.proofs.Common.{rules, leb, List, take, drop, ap, subst, ◌<◌, ◌≤◌, length}
use Rattle.std.specs.List.{All}
use Rattle.mqb_base.specs.Rooms.{Room}
use Rattle.std.proofs.lemmas.List.Sorted.{IsPartitionPoint-from_clause, IsPartitionedBy-leb}
use Rattle.mqb_orders.specs.declared.kept.Kept.{Kept}
use Rattle.mqb_orders.proofs.Halves.{rises_weakly, first_from_point, rest_from_point}
use Rattle.mqb_orders.proofs.kept.KeptList.count_up_to.Goals as goal

pub returns-clause-first : goal.returns-clause-first
returns-clause-first c =
    let parted = IsPartitionedBy-leb (λ (k : Kept). k.number) c.self.inside.items.items c.args.number (rises_weakly _ c.self.invariant.3) in
    let point = IsPartitionPoint-from_clause (λ (k : Kept). leb k.number c.args.number) _ _ c.partition_point.ensures.partitioned parted (λ a r q k. search rules) in
    subst (λ (kept : List Kept). All (λ k. k.number ≤ c.args.number) (take c.partition_point.result kept)) (ap (λ (l : Room Kept). l.items) c.self.view_is)
    (first_from_point c.args.number _ c.partition_point.result point.0)

pub returns-clause-rest : goal.returns-clause-rest
returns-clause-rest c =
    let parted = IsPartitionedBy-leb (λ (k : Kept). k.number) c.self.inside.items.items c.args.number (rises_weakly _ c.self.invariant.3) in
    let point = IsPartitionPoint-from_clause (λ (k : Kept). leb k.number c.args.number) _ _ c.partition_point.ensures.partitioned parted (λ a r q k. search rules) in
    subst (λ (kept : List Kept). All (λ k. c.args.number < k.number) (drop c.partition_point.result kept)) (ap (λ (l : Room Kept). l.items) c.self.view_is)
    (rest_from_point c.args.number _ c.partition_point.result point.1)
