use Rattle.std.proofs.Common.{sym, subst}
use Rattle.mqb_base.specs.Rooms.{WithRooms}
use Rattle.mqb_contents.specs.Rooms.{StateRooms}
use Rattle.mqb_timeouts.specs.Noting.{origin_of}
use Rattle.mqb_model.specs.state.State.{State}
use Rattle.mqb_model.specs.state.Valid.{IsValidState}
use Rattle.mqb_state.proofs.Marks.{noted_valid}
use Rattle.mqb_state.proofs.state.State.note_sent.Goals as goal

pub invariant_of-self : goal.invariant_of-self
invariant_of-self c =
    subst IsValidState (sym c.note_sent.ensures.lists)
    (noted_valid c.args.peer c.args.head.now c.deref_mut.result.now.lists (origin_of c.args.origin)
    (subst (λ (w : WithRooms State StateRooms). IsValidState w.lists) (sym c.deref_mut.ensures.value) c.self.invariant))
