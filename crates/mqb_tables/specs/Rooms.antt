-- How many members a list can have without memory, and each of its members.
use Rattle.std.specs.Option.{option_map_or}
use Rattle.std.specs.Prelude.{[], ◌≡◌, ◌≤◌, List, length, slice_get, ℕ}
use Rattle.mqb_base.specs.declared.message.Lane.{Lane}
use Rattle.mqb_plain.specs.Plain.{PlainRooms}
use Rattle.mqb_plain.specs.Plain as plain

-- the rooms of the members of a list, and how many members it can have
pub record MemberRooms (R : Type 0) : Type 0 where
  pub each : List R
  pub more : ℕ

-- no members, and room for none
abbrev pub no_members : {R : Type 0} → MemberRooms R
no_members = record { each = []; more = 0 }

-- how much room the member at an index has
abbrev pub member_room : {R : Type 0} → (R → ℕ) → MemberRooms R → ℕ → ℕ
member_room room r k = option_map_or room (slice_get r.each k) 0

-- how many plain messages of a lane can wait for the peer at an index
abbrev pub plain_room : MemberRooms PlainRooms → ℕ → Lane → ℕ
plain_room r peer kind = member_room (plain.room_in kind) r peer

-- Each member can have as many as before, or more, and so can the list.
pub record AreMembersGrown {R : Type 0} (room : R → ℕ) (old new : MemberRooms R) : Type 0 where
  pub rooms : (k : ℕ) → member_room room old k ≤ member_room room new k
  pub count : length new.each ≡ length old.each
  pub more : old.more ≤ new.more
