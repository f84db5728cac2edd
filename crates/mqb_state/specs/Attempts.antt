-- What was done to a state, and leads back from there.
use Rattle.std.specs.Prelude.{◌≡◌, List}
use Rattle.mqb_base.specs.Rooms.{WithRooms}
use Rattle.mqb_base.specs.declared.ledger.Line.{Line}
use Rattle.mqb_contents.specs.Changes.{AllReady, redone, rooms_redone}
use Rattle.mqb_contents.specs.Rooms.{IsGrown, StateRooms}
use Rattle.mqb_contents.specs.declared.change.Change.{Change}
use Rattle.mqb_model.specs.state.State.{State}

-- the changes back, and the lines of what was done
pub record Attempted : Type 0 where
  pub back : List Change
  pub lines : List Line

-- Changes lead back from a state to the one before it, without memory, and leave no
-- less room than that had.
pub record LeadsBack (now : WithRooms State StateRooms) (back : List Change)
    (before : WithRooms State StateRooms) : Type 0 where
  pub ready : AllReady now back
  pub lists : redone now.lists back ≡ before.lists
  pub rooms : IsGrown before.rooms (rooms_redone now.rooms back)
