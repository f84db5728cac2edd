-- How many members each list of a manager can have without memory.
use Rattle.std.specs.Option.{option_map_or}
use Rattle.std.specs.Prelude.{[], ◌≡◌, ◌≤◌, List, length, ℕ}
use Rattle.mqb_base.specs.declared.message.Lane.{Lane}
use Rattle.mqb_base.specs.declared.queues.EntryPlace.{EntryPlace}
use Rattle.mqb_orders.specs.declared.keys.InKey.{InKey}
use Rattle.mqb_orders.specs.declared.keys.OutKey.{OutKey}
use Rattle.mqb_plain.specs.Plain.{PlainRooms}
use Rattle.mqb_plain.specs.Plain as plain
use Rattle.mqb_queue.specs.Lists as lists
use Rattle.mqb_queue.specs.Places.{PlaceRooms, no_rooms, rooms_at}
use Rattle.mqb_tables.specs.Keys.{AreKeysKept, same_in_key, same_out_key}
use Rattle.mqb_tables.specs.Rooms.{AreMembersGrown, MemberRooms, member_room, no_members}

-- of the places, of the list of peers, of the plain messages that wait for each of them, and of the
-- rows; and the keys of the tables of rows
pub record StateRooms : Type 0 where
  pub places : PlaceRooms
  pub peers : ℕ
  pub plain : MemberRooms PlainRooms
  pub outs : MemberRooms ℕ
  pub in_use : List OutKey
  pub ins : ℕ
  pub sources : List InKey

abbrev pub no_room : StateRooms
no_room = record {
  places = no_rooms;
  peers = 0;
  plain = no_members;
  outs = no_members;
  in_use = [];
  ins = 0;
  sources = [];
}

-- how many incoming rows there can be, and the keys of their table: a row that has one of
-- them takes no memory
pub record InRooms : Type 0 where
  pub more : ℕ
  pub keys : List InKey

-- the rooms of outgoing rows, and the keys of their table
pub record OutRooms : Type 0 where
  pub members : MemberRooms ℕ
  pub keys : List OutKey

-- how many messages of a lane a place can have without memory
abbrev pub place_room : PlaceRooms → EntryPlace → Lane → ℕ
place_room r at kind = option_map_or (lists.room_in kind) (rooms_at r at) 0

-- how many messages the outgoing row at an index can keep
abbrev pub kept_room : MemberRooms ℕ → ℕ → ℕ
kept_room r row = member_room (λ n. n) r row

-- Each list can have as many members as before, or more, and each key of a table stays.
pub record ArePlacesGrown (old new : PlaceRooms) : Type 0 where
  pub rooms : (at : EntryPlace) (kind : Lane) → place_room old at kind ≤ place_room new at kind
  pub count : length new.queues ≡ length old.queues
  pub more : old.more_queues ≤ new.more_queues

pub record IsGrown (old new : StateRooms) : Type 0 where
  pub places : ArePlacesGrown old.places new.places
  pub peers : old.peers ≤ new.peers
  pub plain : (kind : Lane) → AreMembersGrown (plain.room_in kind) old.plain new.plain
  pub outs : AreMembersGrown (λ n. n) old.outs new.outs
  pub in_use : AreKeysKept same_out_key old.in_use new.in_use
  pub ins : old.ins ≤ new.ins
  pub sources : AreKeysKept same_in_key old.sources new.sources
