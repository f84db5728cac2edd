use Rattle.std.proofs.Common.{◌≡◌, ◌<◌, ◌-◌, length, List, None, Option, Some, sym, ap, ◌∙◌, subst, arith}
use Rattle.std.specs.Option.{option_map_or}
use Rattle.std.proofs.lemmas.Option.{get_or_from_slice_get, slice_get_within}
use Rattle.mqb_base.specs.Rooms.{WithRooms}
use Rattle.mqb_tables.specs.mqb_model.declared.limits.TheConstants.{MAX_QUEUES}
use Rattle.mqb_tables.specs.mqb_model.state.State.{State}
use Rattle.mqb_queue.specs.Places.{PlaceRooms, Places, Queue, QueueRooms, found, new_queue, no_queue_room}
use Rattle.mqb_contents.specs.Changes.{changed}
use Rattle.mqb_tables.specs.Ends.{last_else, last_of, without_last}
use Rattle.mqb_contents.specs.Rooms.{StateRooms}
use Rattle.mqb_contents.specs.Seen.{seen}
use Rattle.mqb_contents.specs.declared.change.Change.TheVariants as change
use Rattle.mqb_tables.proofs.Members.{length-without_last}
use Rattle.mqb_contents.proofs.Named.{last_name}
use Rattle.mqb_contents.proofs.contents.Contents.drop_queue.Goals as goal

pub returns : goal.returns
returns c =
    let i = c.self.inside in
    let q = c.pop_queue.result in
    let queues : List Queue = i.queues.lists.queues in
    let rest : c.pop_queue.new.self.lists.queues ≡ without_last queues = ap (λ (p : WithRooms Places PlaceRooms). p.lists.queues) c.pop_queue.ensures.rest in
    let last : last_of c.args.self.now.lists.places.queues ≡ Some (new_queue q.plan) =
    ap (λ (w : WithRooms State StateRooms). last_of w.lists.places.queues) (sym c.self.view_is) ∙ c.pop_queue.ensures.plan in
    let room : last_else c.args.self.now.rooms.places.queues no_queue_room ≡ q.rooms =
    ap (λ (w : WithRooms State StateRooms). last_else w.rooms.places.queues no_queue_room) (sym c.self.view_is)
    ∙ get_or_from_slice_get i.queues.rooms.queues (length i.queues.rooms.queues - 1) q.rooms no_queue_room c.pop_queue.ensures.rooms in
    let fewer : length (without_last queues) < MAX_QUEUES =
    omega (arith, length-without_last queues, slice_get_within queues (length queues - 1) (new_queue q.plan) c.pop_queue.ensures.plan, c.self.invariant.few_queues) in
    record {
      made = ap (λ (p : WithRooms Places PlaceRooms). seen i.identity i.peers i.plain p i.outs i.ins i.counters) c.pop_queue.ensures.rest
          ∙ ap (λ (w : WithRooms State StateRooms). changed w change.DropQueue) c.self.view_is;
      back_is = sym (ap (λ (o : Option Queue). option_map_or (λ p. change.AddQueue (record {
        plan = p.plan;
        rooms = last_else c.args.self.now.rooms.places.queues no_queue_room;
      })) o change.DropQueue) last
          ∙ ap (λ (r : QueueRooms). change.AddQueue (record { plan = q.plan; rooms = r })) room);
      can_back = subst (λ (l : List Queue). (found l q.plan.name ≡ None) × (length l < MAX_QUEUES)) (sym rest)
          (last_name queues q.plan c.count-count.ensures.distinct c.pop_queue.ensures.plan, fewer);
      has_room = c.pop_queue.ensures.room;
    }
