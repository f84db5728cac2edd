use Rattle.std.proofs.Common.{◌<◌, ◌≤◌, List, drop, arith, ap, sym, ◌∙◌, subst}
use Rattle.std.proofs.lemmas.List.Kept.{AllPairs-filter}
use Rattle.mqb_base.specs.Rooms.{Room}
use Rattle.mqb_orders.specs.declared.kept.Kept.{Kept}
use Rattle.mqb_orders.specs.KeptLists.{Rises, released}
use Rattle.mqb_orders.proofs.Halves.{rises_behind, rest_stays}
use Rattle.mqb_orders.proofs.kept.KeptList.release.Goals as goal

pub invariant_of-self : goal.invariant_of-self
invariant_of-self c = (
  omega (arith, c.self.invariant.0, c.release_each.ensures.bound),
  omega (arith, c.self.invariant.1, c.release_each.ensures.capacity),
  c.self.invariant.2,
  rw c.release_each.ensures.kept (AllPairs-filter (λ j k. j.number < k.number) _ _ c.self.invariant.3),
)

pub invariant_of-self-else-has_dead_letters : goal.invariant_of-self-else-has_dead_letters
invariant_of-self-else-has_dead_letters c = (
  omega (arith, c.self.invariant.0, c.drop_first.ensures.bound),
  omega (arith, c.self.invariant.1, c.drop_first.ensures.capacity),
  c.self.invariant.2,
  subst Rises (sym c.drop_first.ensures.items) (rises_behind c.count_from_front-count.result c.self.inside.items.items c.self.invariant.3),
)

pub returns-else-has_dead_letters : goal.returns-else-has_dead_letters
returns-else-has_dead_letters c =
    ap (λ (kept : List Kept). record { items = kept; room = c.self.inside.room })
    (c.drop_first.ensures.items
    ∙ (ap (λ (l : Room Kept). drop c.count_from_front-count.result l.items) c.self.view_is
    ∙ sym (rest_stays c.args.number c.args.self.now.items c.count_from_front-count.result c.count_from_front-count.ensures.first c.count_from_front-count.ensures.rest
    (sym c.has_dead_letters.ensures ∙ c.if-has_dead_letters.false))))
    ∙ ap (λ (l : Room Kept). record l { items = released c.args.number c.args.self.now.items }) c.self.view_is
