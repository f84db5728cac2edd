use Rattle.std.proofs.Common.{rules, List, ap, subst}
use Rattle.mqb_base.specs.Rooms.{Room}
use Rattle.mqb_orders.specs.declared.kept.Kept.{Kept}
use Rattle.mqb_orders.specs.KeptLists.{Rises}
use Rattle.mqb_orders.proofs.Halves.{rest_from_found}
use Rattle.mqb_orders.proofs.kept.KeptList.count_from_front.Goals as goal

pub returns-in-Some-clause-rest : goal.returns-in-Some-clause-rest
returns-in-Some-clause-rest c =
    let rises = subst Rises (ap (λ (l : Room Kept). l.items) c.self.view_is) c.self.invariant.3 in
    rest_from_found c.args.number c.args.self.now.items c.in-Some.at rises (λ d. search rules)
