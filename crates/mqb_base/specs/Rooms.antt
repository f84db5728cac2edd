use Rattle.std.specs.Prelude.{ℕ, List}

-- the members of a list, and how many it can have without memory
pub record Room (T : Type 0) : Type 0 where
  pub items : List T
  pub room : ℕ

-- lists, and beside them how many members each can have without memory
pub record WithRooms (Lists Rooms : Type 0) : Type 0 where
  pub lists : Lists
  pub rooms : Rooms
