use Rattle.std.proofs.Common.{◌≡◌, Some, sym, ap, ◌∙◌}
use Rattle.mqb_base.specs.Rooms.{WithRooms}
use Rattle.mqb_contents.specs.Rooms.{StateRooms}
use Rattle.mqb_contents.specs.mqb_model.state.State.{State}
use Rattle.std.specs.Prelude.{slice_get}
use Rattle.mqb_contents.specs.Rows.{with_out}
use Rattle.mqb_contents.proofs.Grown.{grown_trans}
use Rattle.mqb_orders.specs.Rows.{acknowledged, row_of}
use Rattle.mqb_queue.proofs.Changed.{on_ok}
use Rattle.mqb_drafts.specs.Drafts.{Drafted}
use Rattle.mqb_drafts.specs.Rows.{releasing, with_acked}
use Rattle.mqb_drafts.proofs.Outs.{two_steps}
use Rattle.mqb_drafts.proofs.Releasing.{acknowledged_is}
use Rattle.mqb_drafts.proofs.drafts.Draft.acknowledge.Goals as goal

pub returns-clause-ok : goal.returns-clause-ok
returns-clause-ok c =
    let s = c.args.self.now.effect.state in
    let acked = c.max-acked.result in
    let is : slice_get s.outs c.args.row ≡ Some (row_of c.out.result.now) =
    ap (λ (d : Drafted). slice_get d.effect.state.outs c.args.row) (sym c.self.view_is)
    ∙ (ap (λ (w : WithRooms State StateRooms). slice_get w.lists.outs c.args.row) (sym c.deref.ensures) ∙ c.out.ensures.row) in
    on_ok c.mark_acked.result c.mark_acked.ensures.ok (two_steps c.args.self.now.effect c.release.new.self.effect c.mark_acked.new.self.effect
    (with_out (releasing acked) s c.args.row) (with_out (acknowledged c.args.number) s c.args.row) (λ t. with_out (with_acked acked) t c.args.row)
    c.in_ok-release.ensures.ok (acknowledged_is c.args.number acked s c.args.row (row_of c.out.result.now) is c.max-acked.ensures))

pub returns-clause-grown : goal.returns-clause-grown
returns-clause-grown c = grown_trans c.release.ensures.grown c.mark_acked.ensures.grown
