use Rattle.std.proofs.Common.{◌≡◌, List, length, sym, ap, ◌∙◌}
use Rattle.std.proofs.lemmas.List.{length-map}
use Rattle.mqb_contents.specs.Rows.{begun_row, with_marks, with_out}
use Rattle.mqb_model.specs.state.State.{State}
use Rattle.mqb_orders.specs.Rows.{Row, row_of}
use Rattle.mqb_queue.proofs.Changed.{on_ok}
use Rattle.mqb_snapshot.specs.Parts.{Parts}
use Rattle.mqb_snapshot.specs.Reading.{with_row}
use Rattle.mqb_read_back.proofs.Keeping.{row_added}
use Rattle.mqb_read_back.proofs.parts.ReadParts.add_row.Goals as goal

pub returns : goal.returns
returns c =
    let s = c.args.self.now.state in
    let row = begun_row c.args.row.peer c.args.row.destination c.args.row.sequence in
    let last : length c.outs.result.now ≡ length s.outs =
    sym (length-map c.outs.result.now row_of)
    ∙ (ap (λ (l : List Row). length l) c.outs.ensures.rows ∙ ap (λ (p : Parts). length p.state.outs) c.self.view_is) in
    on_ok c.change-2.result c.change-2.ensures (λ e. e
    ∙ (ap (λ (p : Parts). record { state = with_out (with_marks c.args.marks) p.state (length c.outs.result.now); numbers = p.numbers }) c.in_ok-change.ensures
    ∙ ap (λ (t : State). record { state = t; numbers = c.args.self.now.numbers })
    (ap (λ k. with_out (with_marks c.args.marks) (with_row s row) k) last ∙ row_added s c.args.marks row)))
