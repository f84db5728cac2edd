-- The lists of a place without messages, of which nothing but the room is kept.
use Rattle.std.specs.Prelude.{◌≡◌, ◌+◌, ◌≤◌, []}
use Rattle.mqb_base.specs.Rooms.{Room}
use Rattle.mqb_base.specs.declared.message.Message.{Message}
use Rattle.mqb_base.specs.declared.roomed.TheConstants.{MAX_MEMBERS}
use Rattle.mqb_base.specs.declared.queues.QueuePlan.{QueuePlan}
use Rattle.mqb_queue.specs.Lists.{ListRooms}
use Rattle.mqb_queue.specs.Places.{Empty}

-- the rooms of the durable list and of the express one
abbrev pub rooms_in : Room Message × Room Message → ListRooms
rooms_in lists = record { durable = lists.0.room; express = lists.1.room }

-- a queue without messages: its plan, its lists and those of its journal
abbrev pub seen_empty : QueuePlan → (lists journal : Room Message × Room Message) → Empty
seen_empty plan lists journal =
    record { plan = plan; rooms = record { lists = rooms_in lists; journal = rooms_in journal } }

-- Neither has a message, and together they have room for as many as a place can have.
pub record AreEmpty (lists : Room Message × Room Message) : Type 0 where
  pub durable : lists.0.items ≡ []
  pub express : lists.1.items ≡ []
  pub few : lists.0.room + lists.1.room ≤ MAX_MEMBERS
