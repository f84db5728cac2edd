-- What contracts see of the members of a list.
use Rattle.std.specs.Prelude.{List, map}
use Rattle.mqb_base.specs.Rooms.{Room, WithRooms}
use Rattle.mqb_plain.specs.Plain.{PlainLists, PlainRooms}
use Rattle.mqb_tables.specs.Rooms.{MemberRooms}

-- members and their rooms, each as it is seen
abbrev pub seen_members : {X Y R : Type 0} → (X → Y) → (X → R) → Room X
    → WithRooms (List Y) (MemberRooms R)
seen_members see room members = record {
  lists = map see members.items;
  rooms = record { each = map room members.items; more = members.room };
}

-- the plain messages for a peer, and their rooms
abbrev pub lists_of : WithRooms PlainLists PlainRooms → PlainLists
lists_of p = p.lists

abbrev pub rooms_of : WithRooms PlainLists PlainRooms → PlainRooms
rooms_of p = p.rooms
