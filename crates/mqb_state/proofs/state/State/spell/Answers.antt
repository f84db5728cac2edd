use Rattle.std.proofs.Common.{Ok, subst, sym, ◌≡◌, ◌++◌, ◌∙◌}
use Rattle.std.specs.Prelude.{OnOk}
use Rattle.mqb_base.specs.Rooms.{WithRooms}
use Rattle.mqb_contents.specs.Rooms.{StateRooms}
use Rattle.mqb_model.specs.state.Durable.{durable}
use Rattle.mqb_model.specs.state.State.{State}
use Rattle.mqb_model.specs.state.Valid.{IsValidState}
use Rattle.mqb_snapshot.specs.Reading.{state_of}
use Rattle.mqb_snapshot.specs.Snapshot.{snapshot}
use Rattle.mqb_snapshot.specs.Values.{IsState}
use Rattle.mqb_state.proofs.Again.{spelled_again}
use Rattle.mqb_state.proofs.state.State.spell.Goals as goal

pub returns-clause-typed : goal.returns-clause-typed
returns-clause-typed c = subst (λ (w : WithRooms State StateRooms). OnOk c.spell.result (IsState w.lists)) (c.deref.ensures ∙ c.self.view_is) c.spell.ensures.typed

pub returns-clause-spelled : goal.returns-clause-spelled
returns-clause-spelled c = subst (λ (w : WithRooms State StateRooms). OnOk c.spell.result (c.spell.new.out.items ≡ c.args.out.now.items ++ snapshot w.lists))
    (c.deref.ensures ∙ c.self.view_is) c.spell.ensures.spelled

pub returns-clause-again : goal.returns-clause-again
returns-clause-again c =
    let valid : IsValidState c.deref.result.now.lists = subst (λ (w : WithRooms State StateRooms). IsValidState w.lists) (sym c.deref.ensures) c.self.invariant in
    subst (λ (w : WithRooms State StateRooms). OnOk c.spell.result (state_of (snapshot w.lists) ≡ Ok (durable w.lists))) (c.deref.ensures ∙ c.self.view_is)
    (spelled_again c.snapshots_are_read_back.ensures c.spell.result c.deref.result.now.lists valid c.spell.ensures.typed)
