-- What contracts see of what a manager keeps.
use Rattle.std.specs.Prelude.{◌≡◌, ◌≤◌, List, length, ℕ}
use Rattle.mqb_base.specs.Rooms.{Room, WithRooms}
use Rattle.mqb_base.specs.declared.ids.Identity.{Identity}
use Rattle.mqb_orders.specs.Rows.{Row}
use Rattle.mqb_orders.specs.declared.keys.OutKey.{OutKey}
use Rattle.mqb_orders.specs.declared.rows.InRow.{InRow}
use Rattle.mqb_orders.specs.declared.rows.OutRow.{OutRow}
use Rattle.mqb_plain.specs.Plain.{PlainLists, PlainRooms}
use Rattle.mqb_queue.specs.Places.{PlaceRooms, Places}
use Rattle.mqb_tables.specs.mqb_model.declared.limits.TheConstants.{MAX_PEERS, MAX_QUEUES}
use Rattle.mqb_tables.specs.mqb_model.state.State.{State}
use Rattle.mqb_contents.specs.Rooms.{InRooms, OutRooms, StateRooms}
use Rattle.mqb_tables.specs.Rooms.{MemberRooms}
use Rattle.mqb_contents.specs.declared.counters.Counters.{Counters}

-- outgoing rows and their rooms, with the keys of their table
abbrev pub with_keys : List OutKey → WithRooms (List Row) (MemberRooms ℕ)
    → WithRooms (List Row) OutRooms
with_keys keys rows =
    record { lists = rows.lists; rooms = record { members = rows.rooms; keys = keys } }

-- how many messages an outgoing row can keep
abbrev pub room_of : OutRow → ℕ
room_of r = r.kept.room

abbrev pub counters_of : State → Counters
counters_of s = record {
  next_number = s.next_number;
  next_ordinal = s.next_ordinal;
  roll = s.roll;
  next_express = s.next_express;
}

-- all lists, and their rooms
abbrev pub seen : Identity → Room Identity → WithRooms (List PlainLists) (MemberRooms PlainRooms)
    → WithRooms Places PlaceRooms → WithRooms (List Row) OutRooms
    → WithRooms (List InRow) InRooms → Counters → WithRooms State StateRooms
seen identity peers plain queues outs ins counters = record {
  lists = record {
    identity = identity;
    peers = peers.items;
    plain = plain.lists;
    places = queues.lists;
    outs = outs.lists;
    ins = ins.lists;
    next_number = counters.next_number;
    next_ordinal = counters.next_ordinal;
    roll = counters.roll;
    next_express = counters.next_express;
  };
  rooms = record {
    places = queues.rooms;
    peers = peers.room;
    plain = plain.rooms;
    outs = outs.rooms.members;
    in_use = outs.rooms.keys;
    ins = ins.rooms.more;
    sources = ins.rooms.keys;
  };
}

-- Peers and queues are within their limits, and each peer has its plain messages.
pub record IsInLimits (peers : List Identity) (plain : List PlainLists)
    (places : Places) : Type 0 where
  pub few_peers : length peers ≤ MAX_PEERS
  pub few_queues : length places.queues ≤ MAX_QUEUES
  pub plain_lists : length plain ≡ length peers
