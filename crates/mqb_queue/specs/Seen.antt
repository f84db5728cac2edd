-- What contracts see of a queue.
use Rattle.std.specs.Prelude.{ℕ, List, map}
use Rattle.mqb_base.specs.Rooms.{Room, WithRooms}
use Rattle.mqb_queue.specs.declared.queue.Queue as code
use Rattle.mqb_queue.specs.Lists.{Lists, ListRooms}
use Rattle.mqb_queue.specs.Places.{Places, PlaceRooms, Queue, QueueRooms}

-- a queue's lists, and their rooms
abbrev pub queue_of : code.Queue → Queue
queue_of q = record { plan = q.plan; lists = q.lists.lists; journal = q.journal.lists }

abbrev pub rooms_of : code.Queue → QueueRooms
rooms_of q = record { lists = q.lists.rooms; journal = q.journal.rooms }

-- all places, and their rooms
abbrev pub seen : Room code.Queue → (dead dead_xact journal : WithRooms Lists ListRooms)
    → WithRooms Places PlaceRooms
seen queues dead dead_xact journal = record {
  lists = record {
    queues = map queue_of queues.items;
    dead = dead.lists;
    dead_xact = dead_xact.lists;
    journal = journal.lists;
  };
  rooms = record {
    queues = map rooms_of queues.items;
    more_queues = queues.room;
    dead = dead.rooms;
    dead_xact = dead_xact.rooms;
    journal = journal.rooms;
  };
}
