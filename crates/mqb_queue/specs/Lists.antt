-- The messages of a place.
use Rattle.std.specs.Prelude.{ℕ, ◌+◌, ◌-◌, max, List, [], ◌∷◌, ◌++◌, length, insert, remove}
use Rattle.mqb_base.specs.declared.message.Lane.{Lane}
use Rattle.mqb_base.specs.declared.message.Lane.TheVariants as lane
use Rattle.mqb_base.specs.declared.message.Message.{Message}
use Rattle.mqb_base.specs.Rooms.{WithRooms}

-- the messages of a place, the oldest first: those that survive a restart, and express ones
pub record Lists : Type 0 where
  pub durable : List Message
  pub express : List Message

-- how many messages each list can have without memory
pub record ListRooms : Type 0 where
  pub durable : ℕ
  pub express : ℕ

-- a place without messages
abbrev pub no_messages : Lists
no_messages = record { durable = []; express = [] }

abbrev pub no_room : ListRooms
no_room = record { durable = 0; express = 0 }

-- how many messages a place has
abbrev pub count : Lists → ℕ
count l = length l.durable + length l.express

-- the messages of a lane
abbrev pub messages_in : Lane → Lists → List Message
messages_in lane.Durable l = l.durable
messages_in lane.Express l = l.express

-- a lane has these messages, and the other one stays
abbrev pub with_messages : Lane → List Message → Lists → Lists
with_messages lane.Durable messages l = record l { durable = messages }
with_messages lane.Express messages l = record l { express = messages }

abbrev pub room_in : Lane → ListRooms → ℕ
room_in lane.Durable r = r.durable
room_in lane.Express r = r.express

-- how many more messages of a lane there can be without memory
abbrev pub spare : Lane → WithRooms Lists ListRooms → ℕ
spare kind w = room_in kind w.rooms - length (messages_in kind w.lists)

-- a message joins a lane at the end
abbrev pub put : Lane → Message → Lists → Lists
put kind m l = with_messages kind (messages_in kind l ++ m ∷ []) l

-- a message joins a lane before the one at k, or at the end
abbrev pub inserted : Lane → ℕ → Message → Lists → Lists
inserted kind k m l = with_messages kind (insert (messages_in kind l) k m) l

-- the message of a lane at k leaves
abbrev pub without : Lane → ℕ → Lists → Lists
without kind k l = with_messages kind (remove (messages_in kind l) k) l

-- there is room for so many more of each kind, and for no more than that where there was less
abbrev pub room_for : (durable express : ℕ) → Lists → ListRooms → ListRooms
room_for durable express l r = record {
  durable = max r.durable (length l.durable + durable);
  express = max r.express (length l.express + express);
}

-- and for one more of a lane
abbrev pub room_to_put : Lane → Lists → ListRooms → ListRooms
room_to_put lane.Durable l r = room_for 1 0 l r
room_to_put lane.Express l r = room_for 0 1 l r
