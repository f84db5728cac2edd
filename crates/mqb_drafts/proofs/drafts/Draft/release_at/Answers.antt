use Rattle.std.proofs.Common.{◌-◌, ◌<◌, Option, length, sym, ap, ◌∙◌, subst}
use Rattle.mqb_base.specs.Rooms.{WithRooms}
use Rattle.mqb_contents.specs.Rooms.{StateRooms}
use Rattle.mqb_contents.specs.mqb_model.state.State.{State}
use Rattle.std.specs.Option.{IsSomeAnd}
use Rattle.std.specs.Prelude.{slice_get}
use Rattle.std.proofs.lemmas.Option.{slice_get_within}
use Rattle.mqb_contents.specs.Rows.{kept_count, with_out}
use Rattle.mqb_contents.specs.mqb_model.rules.Effects.{Effect}
use Rattle.mqb_orders.specs.Rows.{Row, row_of}
use Rattle.mqb_drafts.specs.Drafts.{Drafted}
use Rattle.mqb_drafts.specs.Rows.{StaysBefore, releasing}
use Rattle.mqb_drafts.proofs.Releasing.{IsAt, fewer, low_at, passed, released_same, stays_left, stays_on}
use Rattle.mqb_drafts.proofs.drafts.Draft.release_at.Goals as goal

pub returns-then-keeps_dead-clause-stays : goal.returns-then-keeps_dead-clause-stays
returns-then-keeps_dead-clause-stays c =
    let at : IsAt c.args.self.now.effect.state c.args.row c.args.index (row_of c.out.result.now) c.get.result.now = record {
      row_is = ap (λ (d : Drafted). slice_get d.effect.state.outs c.args.row) (sym c.self.view_is)
          ∙ (ap (λ (w : WithRooms State StateRooms). slice_get w.lists.outs c.args.row) (sym c.deref.ensures) ∙ c.out.ensures.row);
      kept_is = c.get.ensures.kept;
    } in
    stays_on c.args.self.now.effect.state c.args.row c.args.index (row_of c.out.result.now) c.get.result.now at (sym c.keeps_dead.ensures ∙ c.if-keeps_dead.true) c.requires.stays

pub returns-then-keeps_dead-clause-nearer : goal.returns-then-keeps_dead-clause-nearer
returns-then-keeps_dead-clause-nearer c =
    let at : IsAt c.args.self.now.effect.state c.args.row c.args.index (row_of c.out.result.now) c.get.result.now = record {
      row_is = ap (λ (d : Drafted). slice_get d.effect.state.outs c.args.row) (sym c.self.view_is)
          ∙ (ap (λ (w : WithRooms State StateRooms). slice_get w.lists.outs c.args.row) (sym c.deref.ensures) ∙ c.out.ensures.row);
      kept_is = c.get.ensures.kept;
    } in
    passed c.args.self.now.effect.state c.args.row c.args.index (row_of c.out.result.now) c.get.result.now at

pub take_out_kept-requires : goal.take_out_kept-requires
take_out_kept-requires c =
    let at : IsAt c.args.self.now.effect.state c.args.row c.args.index (row_of c.out.result.now) c.get.result.now = record {
      row_is = ap (λ (d : Drafted). slice_get d.effect.state.outs c.args.row) (sym c.self.view_is)
          ∙ (ap (λ (w : WithRooms State StateRooms). slice_get w.lists.outs c.args.row) (sym c.deref.ensures) ∙ c.out.ensures.row);
      kept_is = c.get.ensures.kept;
    } in
    subst (λ (o : Option Row). IsSomeAnd o (λ r. c.args.index < length r.kept)) (sym at.row_is)
    (slice_get_within c.out.result.now.kept.items c.args.index c.get.result.now at.kept_is)

pub returns-clause-same : goal.returns-clause-same
returns-clause-same c =
    let at : IsAt c.args.self.now.effect.state c.args.row c.args.index (row_of c.out.result.now) c.get.result.now = record {
      row_is = ap (λ (d : Drafted). slice_get d.effect.state.outs c.args.row) (sym c.self.view_is)
          ∙ (ap (λ (w : WithRooms State StateRooms). slice_get w.lists.outs c.args.row) (sym c.deref.ensures) ∙ c.out.ensures.row);
      kept_is = c.get.ensures.kept;
    } in
    ap (λ (e : Effect). with_out (releasing c.args.number) e.state c.args.row) c.in_ok-take_out_kept.ensures.ok
    ∙ released_same c.args.number c.args.self.now.effect.state c.args.row c.args.index (row_of c.out.result.now) c.get.result.now at (low_at c.args.number c.args.self.now.effect.state c.args.row c.args.index (row_of c.out.result.now) c.get.result.now at c.requires.up_to)
    (sym c.keeps_dead.ensures ∙ c.if-keeps_dead.false)

pub returns-clause-stays : goal.returns-clause-stays
returns-clause-stays c =
    let at : IsAt c.args.self.now.effect.state c.args.row c.args.index (row_of c.out.result.now) c.get.result.now = record {
      row_is = ap (λ (d : Drafted). slice_get d.effect.state.outs c.args.row) (sym c.self.view_is)
          ∙ (ap (λ (w : WithRooms State StateRooms). slice_get w.lists.outs c.args.row) (sym c.deref.ensures) ∙ c.out.ensures.row);
      kept_is = c.get.ensures.kept;
    } in
    subst (λ (e : Effect). StaysBefore e.state c.args.row c.args.index) (sym c.in_ok-take_out_kept.ensures.ok)
    (stays_left c.args.self.now.effect.state c.args.row c.args.index (row_of c.out.result.now) c.get.result.now at c.requires.stays)

pub returns-clause-nearer : goal.returns-clause-nearer
returns-clause-nearer c =
    let at : IsAt c.args.self.now.effect.state c.args.row c.args.index (row_of c.out.result.now) c.get.result.now = record {
      row_is = ap (λ (d : Drafted). slice_get d.effect.state.outs c.args.row) (sym c.self.view_is)
          ∙ (ap (λ (w : WithRooms State StateRooms). slice_get w.lists.outs c.args.row) (sym c.deref.ensures) ∙ c.out.ensures.row);
      kept_is = c.get.ensures.kept;
    } in
    subst (λ (e : Effect). kept_count e.state.outs c.args.row - c.args.index < kept_count c.args.self.now.effect.state.outs c.args.row - c.args.index)
    (sym c.in_ok-take_out_kept.ensures.ok) (fewer c.args.self.now.effect.state c.args.row c.args.index (row_of c.out.result.now) c.get.result.now at)
