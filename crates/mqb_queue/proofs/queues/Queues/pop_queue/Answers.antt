use Rattle.std.proofs.Common.{◌≡◌, ◌≤◌, List, Option, Some, None, ℕ, length, map, take, sym, ap, ◌∙◌, subst, arith}
use Rattle.std.specs.Prelude.{slice_get, ◌-◌}
use Rattle.std.specs.Option.{option_map, IsSomeAnd}
use Rattle.std.proofs.lemmas.List.{take-map, length-map}
use Rattle.std.proofs.lemmas.List.Elements.{All-take}
use Rattle.std.proofs.lemmas.Option.{slice_get-map}
use Rattle.std.specs.List.{All}
use Rattle.mqb_base.specs.Names.{name_fault}
use Rattle.mqb_queue.specs.Names.{LeadsTo}
use Rattle.mqb_base.specs.Rooms.{Room, WithRooms}
use Rattle.mqb_base.specs.declared.roomed.TheConstants.{MAX_MEMBERS}
use Rattle.mqb_queue.specs.declared.queue.Queue as code
use Rattle.mqb_queue.specs.Lists.{Lists, ListRooms}
use Rattle.mqb_queue.specs.Places.{Empty, Places, PlaceRooms, Queue, QueueRooms, NamesDiffer, new_queue, without_last}
use Rattle.mqb_queue.specs.Seen.{queue_of, rooms_of, seen}
use Rattle.mqb_queue.proofs.Distinct.{fewer_differ}
use Rattle.mqb_queue.proofs.queues.Queues.pop_queue.Goals as goal

-- the last one, as it is seen
last_seen : {Y : Type 0} (f : code.Queue → Y) (items : List code.Queue) (q : code.Queue) → slice_get items (length items - 1) ≡ Some q
    → slice_get (map f items) (length (map f items) - 1) ≡ Some (f q)
last_seen f items q is =
    ap (λ n. slice_get (map f items) (n - 1)) (length-map items f) ∙ (slice_get-map f items (length items - 1) ∙ ap (option_map f) is)

rest_seen : {Y : Type 0} (f : code.Queue → Y) (items : List code.Queue) → map f (take (length items - 1) items) ≡ take (length (map f items) - 1) (map f items)
rest_seen f items = sym (take-map f (length items - 1) items) ∙ ap (λ n. take (n - 1) (map f items)) (sym (length-map items f))

rest_of : (queues : Room code.Queue) (dead dead_xact journal : WithRooms Lists ListRooms)
    → seen (record queues { items = take (length queues.items - 1) queues.items }) dead dead_xact journal ≡ without_last (seen queues dead dead_xact journal)
rest_of queues dead dead_xact journal =
    let v : WithRooms Places PlaceRooms = seen queues dead dead_xact journal in
    let fewer : WithRooms Places PlaceRooms = seen (record queues { items = take (length queues.items - 1) queues.items }) dead dead_xact journal in
    ap (λ (qs : List Queue). record { lists = record v.lists { queues = qs }; rooms = fewer.rooms }) (rest_seen queue_of queues.items)
    ∙ ap (λ (rs : List QueueRooms). record { lists = (without_last v).lists; rooms = record v.rooms { queues = rs } }) (rest_seen rooms_of queues.items)

empty_of : (o : Option Queue) (q : Queue) → o ≡ Some q → IsSomeAnd o (λ r. r ≡ new_queue r.plan) → q ≡ new_queue q.plan
empty_of o q is h = subst (λ (p : Option Queue). IsSomeAnd p (λ r. r ≡ new_queue r.plan)) is h

fewer_valid : (n : ℕ) (items : List code.Queue) → All (λ q. name_fault q.plan.name ≡ None) (map queue_of items)
    → All (λ q. name_fault q.plan.name ≡ None) (map queue_of (take n items))
fewer_valid n items h = subst (All (λ q. name_fault q.plan.name ≡ None)) (take-map queue_of n items) (All-take (λ q. name_fault q.plan.name ≡ None) n (map queue_of items) h)

pub enter_all-requires-clause-valid : goal.enter_all-requires-clause-valid
enter_all-requires-clause-valid c =
    let items : List code.Queue = c.self.inside.queues.items in
    let rest : c.as_slice.result.now ≡ take (length items - 1) items = c.as_slice.ensures.items ∙ ap (λ (r : Room code.Queue). r.items) c.pop-queue.ensures.rest in
    subst (λ (l : List code.Queue). All (λ q. name_fault q.plan.name ≡ None) (map queue_of l)) (sym rest) (fewer_valid (length items - 1) items c.self.invariant.2.valid)

pub enter_all-requires-clause-differ : goal.enter_all-requires-clause-differ
enter_all-requires-clause-differ c =
    let items : List code.Queue = c.self.inside.queues.items in
    let rest : c.as_slice.result.now ≡ take (length items - 1) items = c.as_slice.ensures.items ∙ ap (λ (r : Room code.Queue). r.items) c.pop-queue.ensures.rest in
    subst (λ (l : List code.Queue). NamesDiffer (map queue_of l)) (sym rest)
    (subst NamesDiffer (take-map queue_of (length items - 1) items) (fewer_differ (length items - 1) (map queue_of items) c.self.invariant.1))

pub from_queue-requires : goal.from_queue-requires
from_queue-requires c =
    let items : List code.Queue = c.self.inside.queues.items in
    let q : code.Queue = c.pop-queue.result in
    let last = last_seen queue_of items q c.pop-queue.ensures.popped in
    let there = ap (λ (s : WithRooms Places PlaceRooms). slice_get s.lists.queues (length s.lists.queues - 1)) (sym c.self.view_is) ∙ last in
    empty_of _ (queue_of q) there c.requires

pub invariant_of-self : goal.invariant_of-self
invariant_of-self c =
    let items : List code.Queue = c.self.inside.queues.items in
    let slice : c.as_slice.result.now ≡ c.pop-queue.new.self.items = c.as_slice.ensures.items in (
      subst (λ (r : Room code.Queue). r.room ≤ MAX_MEMBERS) (sym c.pop-queue.ensures.rest) c.self.invariant.0,
      subst (λ (r : Room code.Queue). NamesDiffer (map queue_of r.items)) (sym c.pop-queue.ensures.rest)
          (subst NamesDiffer (take-map queue_of (length items - 1) items) (fewer_differ (length items - 1) (map queue_of items) c.self.invariant.1)),
      record {
        valid = subst (λ (r : Room code.Queue). All (λ q. name_fault q.plan.name ≡ None) (map queue_of r.items)) (sym c.pop-queue.ensures.rest)
            (fewer_valid (length items - 1) items c.self.invariant.2.valid);
        leads = subst (λ (l : List code.Queue). LeadsTo (map queue_of l) c.enter_all.new.names) slice c.enter_all.ensures.leads;
        count = c.enter_all.ensures.len ∙ (ap length slice ∙ sym (length-map c.pop-queue.new.self.items queue_of));
        room =
            let e : length (map queue_of c.pop-queue.new.self.items) ≡ length c.as_slice.result.now = length-map c.pop-queue.new.self.items queue_of ∙ ap length (sym slice) in
            let same : c.pop-queue.new.self.room ≡ c.self.inside.queues.room = ap (λ (r : Room code.Queue). r.room) c.pop-queue.ensures.rest in
            omega (arith, e, same, c.enter_all.ensures.len, c.enter_all.ensures.room, c.self.invariant.2.room, c.self.invariant.2.count);
      },
    )

pub returns-clause-plan : goal.returns-clause-plan
returns-clause-plan c =
    let items : List code.Queue = c.self.inside.queues.items in
    let q : code.Queue = c.pop-queue.result in
    let last = last_seen queue_of items q c.pop-queue.ensures.popped in
    let there = ap (λ (s : WithRooms Places PlaceRooms). slice_get s.lists.queues (length s.lists.queues - 1)) (sym c.self.view_is) ∙ last in
    let empty : queue_of q ≡ new_queue q.plan = empty_of _ (queue_of q) there c.requires in
    there ∙ (ap (λ (r : Queue). Some r) empty ∙ ap (λ (e : Empty). Some (new_queue e.plan)) (sym c.from_queue.ensures))

pub returns-clause-rooms : goal.returns-clause-rooms
returns-clause-rooms c =
    let items : List code.Queue = c.self.inside.queues.items in
    ap (λ (s : WithRooms Places PlaceRooms). slice_get s.rooms.queues (length s.rooms.queues - 1)) (sym c.self.view_is)
    ∙ (last_seen rooms_of items c.pop-queue.result c.pop-queue.ensures.popped ∙ ap (λ (e : Empty). Some e.rooms) (sym c.from_queue.ensures))

pub returns-clause-rest : goal.returns-clause-rest
returns-clause-rest c =
    let i = c.self.inside in
    ap (λ (r : Room code.Queue). seen r i.dead i.dead_xact i.journal) c.pop-queue.ensures.rest
    ∙ (rest_of i.queues i.dead i.dead_xact i.journal ∙ ap without_last c.self.view_is)
