-- Room is made in a place.
use Rattle.std.proofs.Common.{◌≡◌, ℕ, ◌-◌, ◌<◌, ◌≤◌, length, Option, Some, None, Result, Ok, Err, refl, sym, ap, ◌∙◌, subst, arith}
use Rattle.std.specs.Option.{IsSome, option_map, option_map_or}
use Rattle.std.specs.Result.{OnErr, OnOk}
use Rattle.std.proofs.lemmas.Bool.{true≢false}
use Rattle.std.proofs.lemmas.Option.{slice_get_within}
use Rattle.mqb_base.specs.Rooms.{WithRooms}
use Rattle.mqb_base.specs.declared.answers.Memory.{Memory}
use Rattle.mqb_base.specs.declared.message.Lane.{Lane}
use Rattle.mqb_base.specs.declared.message.Lane.TheVariants as lane
use Rattle.mqb_base.specs.declared.queues.EntryPlace.{EntryPlace}
use Rattle.mqb_base.specs.declared.queues.EntryPlace.TheVariants as entry
use Rattle.mqb_queue.proofs.Changed.{rooms_given}
use Rattle.mqb_queue.proofs.Lens.{is_there, numbered_is}
use Rattle.mqb_queue.specs.Lists.{ListRooms, Lists, messages_in, room_for, room_in}
use Rattle.mqb_queue.specs.Places.{PlaceRooms, Places, Queue, QueueRooms, lists_at, numbered, rooms_at, with_more_room, with_rooms}
use Rattle.mqb_contents.specs.Rooms.{ArePlacesGrown, place_room}
use Rattle.mqb_contents.proofs.Grown.{one_place_grown, places_refl}
use Rattle.mqb_tables.proofs.Members.{there}

abbrev Kept : Type 0
Kept = WithRooms Places PlaceRooms

some_there : {X : Type 0} (o : Option X) → IsSome o → (x : X) × (o ≡ Some x)
some_there None h = absurd (true≢false (sym h))
some_there (Some x) h = (x, refl)

-- each queue has its rooms
numbered_rooms : (w : Kept) → length w.rooms.queues ≡ length w.lists.queues → (n : ℕ) (q : Queue) → numbered w.lists.queues n ≡ Some q
    → (r : QueueRooms) × (numbered w.rooms.queues n ≡ Some r)
numbered_rooms w same n q is =
    let a = is_there w.lists.queues n q is in
    let within : n - 1 < length w.lists.queues = slice_get_within w.lists.queues (n - 1) q a.1 in
    let r = there w.rooms.queues (n - 1) (omega (arith, within, same)) in
    (r.0, numbered_is w.rooms.queues n a.0 ∙ r.1)

rooms_of_place : (w : Kept) → length w.rooms.queues ≡ length w.lists.queues → (at : EntryPlace) (l : Lists) → lists_at w.lists at ≡ Some l
    → (r : ListRooms) × (rooms_at w.rooms at ≡ Some r)
rooms_of_place w same (entry.Queue n) l is = at (numbered w.lists.queues n) refl is
  where
    at : (o : Option Queue) → numbered w.lists.queues n ≡ o → option_map (λ q. q.lists) o ≡ Some l → (r : ListRooms) × (option_map (λ q. q.lists) (numbered w.rooms.queues n) ≡ Some r)
    at None there h = absurd (cc)
    at (Some q) there h = let r = numbered_rooms w same n q there in (r.0.lists, ap (option_map (λ p. p.lists)) r.1)
rooms_of_place w same (entry.JournalOf n) l is = at (numbered w.lists.queues n) refl is
  where
    at : (o : Option Queue) → numbered w.lists.queues n ≡ o → option_map (λ q. q.journal) o ≡ Some l → (r : ListRooms) × (option_map (λ q. q.journal) (numbered w.rooms.queues n) ≡ Some r)
    at None there h = absurd (cc)
    at (Some q) there h = let r = numbered_rooms w same n q there in (r.0.journal, ap (option_map (λ p. p.journal)) r.1)
rooms_of_place w same entry.Dead l is = (w.rooms.dead, refl)
rooms_of_place w same entry.DeadXact l is = (w.rooms.dead_xact, refl)
rooms_of_place w same entry.Journal l is = (w.rooms.journal, refl)

-- the lists of a place that is there, and their rooms
pub place_of : (w : Kept) → length w.rooms.queues ≡ length w.lists.queues → (at : EntryPlace) → IsSome (lists_at w.lists at)
    → (l : Lists) × (r : ListRooms) × (lists_at w.lists at ≡ Some l) × (rooms_at w.rooms at ≡ Some r)
place_of w same at some =
    let l = some_there (lists_at w.lists at) some in
    let r = rooms_of_place w same at l.0 l.1 in
    (l.0, r.0, l.1, r.1)

-- over them
module _ (w : Kept) (at : EntryPlace) (l : Lists) (r : ListRooms) (l_is : lists_at w.lists at ≡ Some l) (r_is : rooms_at w.rooms at ≡ Some r) (durable express : ℕ) where
  reserved : with_more_room w at (room_for durable express) ≡ with_rooms w.rooms at (room_for durable express l r)
  reserved =
      ap (λ (o : Option Lists). option_map_or (λ x. option_map_or (λ y. with_rooms w.rooms at (room_for durable express x y)) (rooms_at w.rooms at) w.rooms) o w.rooms) l_is
      ∙ ap (λ (o : Option ListRooms). option_map_or (λ y. with_rooms w.rooms at (room_for durable express l y)) o w.rooms) r_is

  more : (kind : Lane) → room_in kind r ≤ room_in kind (room_for durable express l r)
  more lane.Durable = omega arith
  more lane.Express = omega arith

  -- v: what is kept afterwards
  pub place_grown : (v : Kept) (made : Result (Unit {0}) Memory) → OnOk made (v ≡ record w { rooms = with_more_room w at (room_for durable express) }) → OnErr made (v ≡ w)
      → ArePlacesGrown w.rooms v.rooms
  place_grown v (Ok u) ok err =
      subst (ArePlacesGrown w.rooms) (sym (ap (λ (x : Kept). x.rooms) ok ∙ reserved)) (one_place_grown w.rooms at r (room_for durable express l r) r_is more)
  place_grown v (Err e) ok err = subst (λ (x : Kept). ArePlacesGrown w.rooms x.rooms) (sym err) (places_refl w.rooms)

  pub place_left : (v : Kept) (kind : Lane) → length (messages_in kind l) < room_in kind (room_for durable express l r)
      → v ≡ record w { rooms = with_more_room w at (room_for durable express) }
      → option_map_or (λ x. length (messages_in kind x)) (lists_at v.lists at) 0 < place_room v.rooms at kind
  place_left v kind fits is =
      subst (λ (x : Kept). option_map_or (λ x. length (messages_in kind x)) (lists_at x.lists at) 0 < place_room x.rooms at kind) (sym is)
      (subst (λ (o : Option Lists). option_map_or (λ x. length (messages_in kind x)) o 0 < place_room (with_more_room w at (room_for durable express)) at kind) (sym l_is)
      (subst (λ (p : PlaceRooms). length (messages_in kind l) < place_room p at kind) (sym reserved)
      (subst (λ (o : Option ListRooms). length (messages_in kind l) < option_map_or (room_in kind) o 0)
      (sym (rooms_given w.rooms at r (room_for durable express l r) r_is)) fits)))
