use Rattle.std.proofs.Common.{◌≡◌, ◌<◌, ◌≤◌, Option, Some, sym, ap, subst, ◌∙◌}
use Rattle.std.specs.Option.{IsSomeAnd}
use Rattle.std.specs.Prelude.{slice_get}
use Rattle.std.proofs.lemmas.Option.{same_Some}
use Rattle.mqb_contents.specs.Rows.{CanKeep}
use Rattle.mqb_orders.specs.Rows.{Row, row_of}
use Rattle.mqb_snapshot.specs.Parts.{Parts}
use Rattle.mqb_snapshot.specs.Reading.{last_number}
use Rattle.mqb_read_back.proofs.Keeping.{can_keep, keeper_of}
use Rattle.mqb_read_back.proofs.parts.ReadParts.keep.Goals as goal

pub change-requires : goal.change-requires
change-requires c =
    let s = c.args.self.now.state in
    let row = row_of c.out.result.now in
    let keeper = keeper_of s c.args.row c.args.kept.number c.requires in
    let is : slice_get s.outs c.args.row ≡ Some row = ap (λ (p : Parts). slice_get p.state.outs c.args.row) (sym c.self.view_is) ∙ c.out.ensures.row in
    let same : keeper.row ≡ row = same_Some keeper.row row (sym keeper.is ∙ is) in
    let above : last_number row.kept < c.args.kept.number = subst (λ (r : Row). last_number r.kept < c.args.kept.number) same keeper.above in
    let committed : c.args.kept.number ≤ row.committed = subst (λ (r : Row). c.args.kept.number ≤ r.committed) same keeper.committed in
    subst (λ (o : Option Row). IsSomeAnd o (CanKeep c.len-index.result c.args.kept)) (sym is)
    (subst (λ k. CanKeep k c.args.kept row) (sym c.len-index.ensures.len) (can_keep row c.args.kept c.len-index.ensures.rises above committed))
