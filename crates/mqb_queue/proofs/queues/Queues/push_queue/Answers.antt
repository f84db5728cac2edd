use Rattle.std.proofs.Common.{◌≡◌, ◌≤◌, ◌∷◌, [], List, None, Some, length, map, sym, ap, ◌∙◌, subst}
use Rattle.std.proofs.lemmas.List.{length-map, map-append}
use Rattle.indexmap.specs.IndexMap.{Updates, get}
use Rattle.mqb_base.specs.Names.{name_fault}
use Rattle.mqb_base.specs.Rooms.{Room, WithRooms}
use Rattle.mqb_base.specs.declared.queues.QueuePlan.{QueuePlan}
use Rattle.mqb_base.specs.declared.roomed.TheConstants.{MAX_MEMBERS}
use Rattle.mqb_queue.specs.Names.{IsNamed, key_of, same_key}
use Rattle.mqb_queue.specs.declared.name_keys.NameKey.{NameKey}
use Rattle.mqb_queue.specs.declared.queue.Queue as code
use Rattle.mqb_queue.specs.Places.{Places, PlaceRooms, Queue, NamesDiffer, found}
use Rattle.mqb_queue.specs.Seen.{queue_of}
use Rattle.mqb_queue.proofs.Distinct.{new_differs}
use Rattle.mqb_queue.proofs.Keys.{absent_name, named_more}
use Rattle.mqb_queue.proofs.queues.Queues.push_queue.Goals as goal

pub enter-requires-clause-absent : goal.enter-requires-clause-absent
enter-requires-clause-absent c =
    let i = c.self.inside in
    ap (λ (k : NameKey). get same_key i.names k) c.name_key-key.ensures.key
    ∙ absent_name (map queue_of i.queues.items) c.plan.result.now.name i.names c.self.invariant.2.leads c.self.invariant.2.valid c.name_key-key.ensures.valid
    (ap (λ (p : QueuePlan). found (map queue_of i.queues.items) p.name) c.plan.ensures
    ∙ (ap (λ (s : WithRooms Places PlaceRooms). found s.lists.queues c.args.queue.plan.name) c.self.view_is ∙ c.requires.named))

pub invariant_of-self : goal.invariant_of-self
invariant_of-self c =
    let i = c.self.inside in
    let items : List code.Queue = i.queues.items in
    let q : code.Queue = c.into_queue.result in
    let plan : c.plan.result.now ≡ q.plan = c.plan.ensures ∙ sym c.into_queue.ensures.plan in
    let key : c.name_key-key.result ≡ key_of q.plan.name = c.name_key-key.ensures.key ∙ ap (λ (p : QueuePlan). key_of p.name) plan in
    let valid : name_fault q.plan.name ≡ None = subst (λ (p : QueuePlan). name_fault p.name ≡ None) plan c.name_key-key.ensures.valid in
    let named : found (map queue_of items) q.plan.name ≡ None =
    ap (λ (p : QueuePlan). found (map queue_of items) p.name) c.into_queue.ensures.plan
    ∙ (ap (λ (s : WithRooms Places PlaceRooms). found s.lists.queues c.args.queue.plan.name) c.self.view_is ∙ c.requires.named) in (
      subst (λ (r : Room code.Queue). r.room ≤ MAX_MEMBERS) (sym c.push.ensures) c.self.invariant.0,
      subst (λ (r : Room code.Queue). NamesDiffer (map queue_of r.items)) (sym c.push.ensures)
          (subst NamesDiffer (sym (map-append queue_of items (q ∷ [])))
          (new_differs (map queue_of items) (queue_of q) named c.self.invariant.1)),
      subst (λ (r : Room code.Queue). IsNamed (map queue_of r.items) r.room c.enter.new.names) (sym c.push.ensures)
          (subst (λ (qs : List Queue). IsNamed qs i.queues.room c.enter.new.names) (sym (map-append queue_of items (q ∷ [])))
          (named_more (map queue_of items) (queue_of q) i.queues.room (length items) i.names c.enter.new.names valid (sym (length-map items queue_of))
          (absent_name (map queue_of items) q.plan.name i.names c.self.invariant.2.leads c.self.invariant.2.valid valid named)
          (subst (λ n. Updates same_key i.names c.enter.new.names (key_of q.plan.name) (Some n)) c.len.ensures.len
          (subst (λ (k : NameKey). Updates same_key i.names c.enter.new.names k (Some c.len.result)) key c.enter.ensures.updates))
          c.enter.ensures.len c.enter.ensures.spare c.self.invariant.2)),
    )
