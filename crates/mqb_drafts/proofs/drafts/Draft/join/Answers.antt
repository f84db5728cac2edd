use Rattle.std.proofs.Common.{◌≡◌, ◌<◌, length, ap, ◌∙◌, subst}
use Rattle.mqb_base.specs.Rooms.{WithRooms}
use Rattle.mqb_contents.specs.Rooms.{StateRooms}
use Rattle.mqb_contents.specs.mqb_model.state.State.{State}
use Rattle.std.specs.Prelude.{slice_get}
use Rattle.mqb_contents.specs.mqb_model.rules.Effects.{without_line}
use Rattle.mqb_contents.specs.mqb_model.rules.Sequences.{sequence_in_use}
use Rattle.mqb_queue.proofs.Changed.{on_ok}
use Rattle.mqb_drafts.specs.Drafts.{Drafted}
use Rattle.mqb_drafts.proofs.Outs.{joined}
use Rattle.mqb_drafts.proofs.drafts.Draft.join.Goals as goal

pub returns-in-Some-clause-ok : goal.returns-in-Some-clause-ok
returns-in-Some-clause-ok c =
    let s = c.args.self.now.effect.state in
    let in_use : slice_get s.outs c.in-Some.row ≡ sequence_in_use s c.args.peer c.args.message.destination =
    subst (λ (d : Drafted). slice_get d.effect.state.outs c.in-Some.row ≡ sequence_in_use d.effect.state c.args.peer c.args.message.destination) c.self.view_is
    (subst (λ (w : WithRooms State StateRooms). slice_get w.lists.outs c.in-Some.row ≡ sequence_in_use w.lists c.args.peer c.args.message.destination) c.deref.ensures c.in-Some.ensures.row) in
    let within : c.in-Some.row < length s.outs = subst (λ (d : Drafted). c.in-Some.row < length d.effect.state.outs) c.self.view_is
    (subst (λ (w : WithRooms State StateRooms). c.in-Some.row < length w.lists.outs) c.deref.ensures c.in-Some.ensures.within) in
    on_ok c.continue_sequence.result c.continue_sequence.ensures.ok (λ e. e
    ∙ ap (without_line c.args.self.now.effect) (joined s c.args.peer c.args.now c.in-Some.row c.args.message c.requires.rises in_use within))
