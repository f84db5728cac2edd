-- The queues of a manager, and the places of messages: by the number of a queue, as the store has
-- them, or by its name.
use Rattle.std.specs.Prelude.{◌≡◌, ℕ, ◌+◌, ◌-◌, ◌==◌, false, List, [], ◌∷◌, ◌++◌, length, is_some}
use Rattle.std.specs.Prelude.{max, take, map, position, slice_get, slice_set, AllPairs, Option}
use Rattle.std.specs.Prelude.{Some, None, option_map, option_and_then, if◌then◌else◌}
use Rattle.std.specs.Option.{option_map_or}
use Rattle.mqb_base.specs.Rooms.{WithRooms}
use Rattle.mqb_base.specs.declared.message.Lane.{Lane}
use Rattle.mqb_base.specs.declared.queues.EntryPlace.{EntryPlace}
use Rattle.mqb_base.specs.declared.queues.EntryPlace.TheVariants as entry
use Rattle.mqb_base.specs.declared.queues.Place.{Place}
use Rattle.mqb_base.specs.declared.queues.Place.TheVariants as place
use Rattle.mqb_base.specs.declared.queues.QueuePlan.{QueuePlan}
use Rattle.mqb_base.specs.Same.{same_ignoring_case}
use Rattle.mqb_queue.specs.Lists.{Lists, ListRooms, messages_in, no_messages, no_room, room_in}

-- a queue, its messages, and the copies in its journal, which has none where the
-- queue keeps no journal
pub record Queue : Type 0 where
  pub plan : QueuePlan
  pub lists : Lists
  pub journal : Lists

pub record QueueRooms : Type 0 where
  pub lists : ListRooms
  pub journal : ListRooms

-- the queues, and the lists that every manager has
pub record Places : Type 0 where
  pub queues : List Queue
  pub dead : Lists
  pub dead_xact : Lists
  pub journal : Lists

-- the rooms of each queue, of the list of queues, and of the lists that every manager has
pub record PlaceRooms : Type 0 where
  pub queues : List QueueRooms
  pub more_queues : ℕ
  pub dead : ListRooms
  pub dead_xact : ListRooms
  pub journal : ListRooms

-- a queue without messages
abbrev pub new_queue : QueuePlan → Queue
new_queue plan = record { plan = plan; lists = no_messages; journal = no_messages }

abbrev pub no_queue_room : QueueRooms
no_queue_room = record { lists = no_room; journal = no_room }

-- no queues, and no messages
abbrev pub nothing : Places
nothing = record { queues = []; dead = no_messages; dead_xact = no_messages; journal = no_messages }

abbrev pub no_rooms : PlaceRooms
no_rooms =
    record { queues = []; more_queues = 0; dead = no_room; dead_xact = no_room; journal = no_room }

-- a queue without messages joins the others at the end
abbrev pub with_queue : QueuePlan → Places → Places
with_queue plan s = record s { queues = s.queues ++ new_queue plan ∷ [] }

-- the plan of a queue without messages, and its rooms
pub record Empty : Type 0 where
  pub plan : QueuePlan
  pub rooms : QueueRooms

-- the place in the list of the queue with a name, the case of letters left aside
abbrev pub found : List Queue → List ℕ → Option ℕ
found queues name = position (λ q. same_ignoring_case q.plan.name name) queues

-- no two queues have the same name
abbrev pub NamesDiffer : List Queue → Type 0
NamesDiffer queues =
    AllPairs (λ a b. same_ignoring_case a b ≡ false) (map (λ q. q.plan.name) queues)

-- the member of a number, counted from 1
abbrev pub numbered : {X : Type 0} → List X → ℕ → Option X
numbered xs number = if number == 0 then None else slice_get xs (number - 1)

-- the member of a number is another one, and the others stay
abbrev pub with_numbered : {X : Type 0} → List X → ℕ → (X → X) → List X
with_numbered xs number change =
    option_map_or (λ x. slice_set xs (number - 1) (change x)) (numbered xs number) xs

-- the lists of a place, where it is there
abbrev pub lists_at : Places → EntryPlace → Option Lists
lists_at s (entry.Queue number) = option_map (λ q. q.lists) (numbered s.queues number)
lists_at s (entry.JournalOf number) = option_map (λ q. q.journal) (numbered s.queues number)
lists_at s entry.Dead = Some s.dead
lists_at s entry.DeadXact = Some s.dead_xact
lists_at s entry.Journal = Some s.journal

-- a place has these lists, and every other place stays
abbrev pub with_lists : Places → EntryPlace → Lists → Places
with_lists s (entry.Queue number) l =
    record s { queues = with_numbered s.queues number (λ q. record q { lists = l }) }
with_lists s (entry.JournalOf number) l =
    record s { queues = with_numbered s.queues number (λ q. record q { journal = l }) }
with_lists s entry.Dead l = record s { dead = l }
with_lists s entry.DeadXact l = record s { dead_xact = l }
with_lists s entry.Journal l = record s { journal = l }

-- the lists of a place are changed, and every other place stays
abbrev pub changed_at : Places → EntryPlace → (Lists → Lists) → Places
changed_at s at change = option_map_or (λ l. with_lists s at (change l)) (lists_at s at) s

-- a place by the number of its queue, in place of the queue's name
abbrev pub place_named : List Queue → Place → Option EntryPlace
place_named queues (place.Queue name) = option_map (λ k. entry.Queue (k + 1)) (found queues name)
place_named queues (place.JournalOf name) =
    option_map (λ k. entry.JournalOf (k + 1)) (found queues name)
place_named queues place.Dead = Some entry.Dead
place_named queues place.DeadXact = Some entry.DeadXact
place_named queues place.Journal = Some entry.Journal

-- the lists of a place by name
abbrev pub lists_named : Places → Place → Option Lists
lists_named s p = option_and_then (lists_at s) (place_named s.queues p)

-- they are changed, and every other place stays
abbrev pub changed_named : Places → Place → (Lists → Lists) → Places
changed_named s p change = option_map_or (λ at. changed_at s at change) (place_named s.queues p) s

-- the rooms of a place, where it is there
abbrev pub rooms_at : PlaceRooms → EntryPlace → Option ListRooms
rooms_at r (entry.Queue number) = option_map (λ q. q.lists) (numbered r.queues number)
rooms_at r (entry.JournalOf number) = option_map (λ q. q.journal) (numbered r.queues number)
rooms_at r entry.Dead = Some r.dead
rooms_at r entry.DeadXact = Some r.dead_xact
rooms_at r entry.Journal = Some r.journal

-- a place has these rooms, and every other place stays
abbrev pub with_rooms : PlaceRooms → EntryPlace → ListRooms → PlaceRooms
with_rooms r (entry.Queue number) l =
    record r { queues = with_numbered r.queues number (λ q. record q { lists = l }) }
with_rooms r (entry.JournalOf number) l =
    record r { queues = with_numbered r.queues number (λ q. record q { journal = l }) }
with_rooms r entry.Dead l = record r { dead = l }
with_rooms r entry.DeadXact l = record r { dead_xact = l }
with_rooms r entry.Journal l = record r { journal = l }

-- how many more messages of a lane a place can have without memory
abbrev pub spare_at : WithRooms Places PlaceRooms → EntryPlace → Lane → ℕ
spare_at w at kind = option_map_or
    (λ r. room_in kind r - option_map_or (λ l. length (messages_in kind l)) (lists_at w.lists at) 0)
    (rooms_at w.rooms at) 0

-- there is room in a place for more
abbrev pub with_more_room : WithRooms Places PlaceRooms → EntryPlace
    → (Lists → ListRooms → ListRooms) → PlaceRooms
with_more_room w at more = option_map_or
    (λ l. option_map_or (λ r. with_rooms w.rooms at (more l r)) (rooms_at w.rooms at) w.rooms)
    (lists_at w.lists at) w.rooms

-- the same by name
abbrev pub spare_named : WithRooms Places PlaceRooms → Place → Lane → ℕ
spare_named w p kind = option_map_or (λ at. spare_at w at kind) (place_named w.lists.queues p) 0

abbrev pub with_more_room_named : WithRooms Places PlaceRooms → Place
    → (Lists → ListRooms → ListRooms) → PlaceRooms
with_more_room_named w p more =
    option_map_or (λ at. with_more_room w at more) (place_named w.lists.queues p) w.rooms

-- there is room for a queue of a name, where none has it
abbrev pub with_queue_room : WithRooms Places PlaceRooms → List ℕ → PlaceRooms
with_queue_room w name = if is_some (found w.lists.queues name) then w.rooms
    else record w.rooms { more_queues = max w.rooms.more_queues (length w.lists.queues + 1) }

-- the last queue leaves, and its rooms
abbrev pub without_last : WithRooms Places PlaceRooms → WithRooms Places PlaceRooms
without_last w = record {
  lists = record w.lists { queues = take (length w.lists.queues - 1) w.lists.queues };
  rooms = record w.rooms { queues = take (length w.rooms.queues - 1) w.rooms.queues };
}
