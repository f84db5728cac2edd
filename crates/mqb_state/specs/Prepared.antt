-- What is prepared of a record before it is written.
use Rattle.std.specs.Prelude.{◌≡◌, List}
use Rattle.mqb_base.specs.Rooms.{WithRooms}
use Rattle.mqb_base.specs.declared.ledger.Line.{Line}
use Rattle.mqb_contents.specs.Changes.{AllReady, redone}
use Rattle.mqb_contents.specs.Rooms.{StateRooms}
use Rattle.mqb_contents.specs.declared.change.Change.{Change}
use Rattle.mqb_model.specs.rules.Effects.{Effect}
use Rattle.mqb_model.specs.state.State.{State}
use Rattle.mqb_model.specs.state.Valid.{IsValidState}

-- the changes that are left to make, and the lines that they are told by
pub record Preparation : Type 0 where
  pub changes : List Change
  pub lines : List Line

-- The changes can be made from this state, without memory, and lead to a valid one.
pub record IsPreparedFrom (w : WithRooms State StateRooms) (p : Preparation) : Type 0 where
  pub ready : AllReady w p.changes
  pub valid : IsValidState (redone w.lists p.changes)

-- An effect is prepared: the changes to it can be made from this state, and the lines are its own.
pub record IsPrepared (w : WithRooms State StateRooms) (p : Preparation)
    (after : Effect) : Type 0 where
  pub from : IsPreparedFrom w p
  pub gives : redone w.lists p.changes ≡ after.state
  pub lines : p.lines ≡ after.lines
