use Rattle.std.proofs.Common.{sym, subst}
use Rattle.mqb_base.specs.Rooms.{WithRooms}
use Rattle.mqb_contents.specs.Rooms.{StateRooms}
use Rattle.mqb_model.specs.state.State.{State}
use Rattle.mqb_model.specs.state.Valid.{IsValidState}
use Rattle.mqb_state.proofs.Marks.{unmarked_valid}
use Rattle.mqb_state.proofs.state.State.unmark.Goals as goal

pub invariant_of-self : goal.invariant_of-self
invariant_of-self c =
    subst (λ (w : WithRooms State StateRooms). IsValidState w.lists) (sym c.unmark.ensures)
    (unmarked_valid c.deref_mut.result.now.lists (subst (λ (w : WithRooms State StateRooms). IsValidState w.lists) (sym c.deref_mut.ensures.value) c.self.invariant))
