use Rattle.std.proofs.Common.{◌≡◌, ◌<◌, Option, Some, drop, sym, ap, ◌∙◌, subst}
use Rattle.mqb_base.specs.Rooms.{WithRooms}
use Rattle.mqb_contents.specs.Rooms.{StateRooms}
use Rattle.mqb_contents.specs.mqb_model.state.State.{State}
use Rattle.std.specs.List.{All}
use Rattle.std.specs.Option.{IsSomeAnd}
use Rattle.std.specs.Prelude.{slice_get}
use Rattle.std.proofs.lemmas.Bool.{leb-false}
use Rattle.mqb_orders.specs.Rows.{Row, row_of}
use Rattle.mqb_drafts.specs.Drafts.{Drafted}
use Rattle.mqb_drafts.proofs.Releasing.{all_above}
use Rattle.mqb_drafts.proofs.drafts.Draft.is_up_to.Goals as goal

pub returns-then-index-len-clause-above : goal.returns-then-index-len-clause-above
returns-then-index-len-clause-above c above =
    let keeper = c.out.result.now in
    let is : slice_get c.args.self.now.effect.state.outs c.args.row ≡ Some (row_of keeper) =
    ap (λ (d : Drafted). slice_get d.effect.state.outs c.args.row) (sym c.self.view_is)
    ∙ (ap (λ (w : WithRooms State StateRooms). slice_get w.lists.outs c.args.row) (sym c.deref.ensures) ∙ c.out.ensures.row) in
    subst (λ (o : Option Row). IsSomeAnd o (λ r. All (λ k. c.args.number < k.number) (drop c.args.index r.kept))) (sym is)
    (all_above c.args.number keeper.kept.items c.args.index c.get.result.now c.get.ensures.rises c.get.ensures.kept (leb-false c.get.result.now.number c.args.number above))
