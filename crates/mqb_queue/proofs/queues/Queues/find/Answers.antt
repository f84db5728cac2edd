use Rattle.std.proofs.Common.{◌<◌, ℕ, Option, length, map, ap, sym, subst, ◌∙◌}
use Rattle.std.specs.Option.{IfSome}
use Rattle.indexmap.specs.IndexMap.{get}
use Rattle.mqb_base.specs.Rooms.{WithRooms}
use Rattle.mqb_base.specs.Same.{same_ignoring_case}
use Rattle.mqb_queue.specs.Names.{key_of, same_key}
use Rattle.mqb_queue.specs.Places.{PlaceRooms, Places, found}
use Rattle.mqb_queue.specs.Seen.{queue_of}
use Rattle.mqb_queue.specs.declared.name_keys.NameKey.{NameKey}
use Rattle.mqb_queue.proofs.Keys.{key_finds}
use Rattle.mqb_queue.proofs.Positions.{position_within}
use Rattle.mqb_queue.proofs.queues.Queues.find.Goals as goal

pub returns-clause-found : goal.returns-clause-found
returns-clause-found c =
    let i = c.self.inside in
    c.copied.ensures ∙ c.get.ensures.value
    ∙ (ap (λ (k : NameKey). get same_key i.names k) c.name_key.ensures.key
    ∙ (c.self.invariant.2.leads (key_of c.args.name.now)
    ∙ (key_finds (map queue_of i.queues.items) c.args.name.now c.self.invariant.2.valid c.name_key.ensures.valid
    ∙ ap (λ (s : WithRooms Places PlaceRooms). found s.lists.queues c.args.name.now) c.self.view_is)))

pub returns-clause-within : goal.returns-clause-within
returns-clause-within c =
    let queues = c.args.self.now.lists.queues in
    subst (λ (o : Option ℕ). IfSome o (λ k. k < length queues)) (sym (returns-clause-found c)) (position_within (λ q. same_ignoring_case q.plan.name c.args.name.now) queues)
