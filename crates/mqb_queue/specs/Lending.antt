use Rattle.std.specs.Borrow.{Lends, MutBor, Fml}
use Rattle.mqb_base.specs.Rooms.{WithRooms}
use Rattle.mqb_base.specs.declared.queues.EntryPlace.{EntryPlace}
use Rattle.mqb_queue.specs.Lists.{Lists, ListRooms}
use Rattle.mqb_queue.specs.Places.{Places, PlaceRooms, with_lists, with_rooms}
use Rattle.mqb_queue.specs.contracts.queues.Queues as queues
use Rattle.mqb_queue.specs.contracts.lists.Lists as lists

-- a place has these lists with their rooms, and every other place stays
abbrev pub with_place : WithRooms Places PlaceRooms → EntryPlace → WithRooms Lists ListRooms
    → WithRooms Places PlaceRooms
with_place s at w =
    record { lists = with_lists s.lists at w.lists; rooms = with_rooms s.rooms at w.rooms }

-- what is last written behind the reference are the lists of the place, and every other place stays
abbrev pub LendsLists : MutBor (WithRooms Places PlaceRooms) → EntryPlace
    → MutBor (WithRooms Lists ListRooms) → Fml
LendsLists s at l = Lends queues.the_row lists.the_row s l (with_place s.now at)
