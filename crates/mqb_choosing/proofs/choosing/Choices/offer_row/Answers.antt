use Rattle.std.proofs.Common.{◌≡◌, List, true, ap, sym, ◌∙◌, arith}
use Rattle.std.proofs.lemmas.Bool.Decides.{nat_tests}
use Rattle.std.specs.Prelude.{◌==◌}
use Rattle.mqb_orders.specs.Rows.{Row, is_open, row_of}
use Rattle.mqb_choosing.proofs.Waiting.{row_offered}
use Rattle.mqb_choosing.proofs.choosing.Choices.offer_row.Goals as goal

pub returns-in_ok-offer_kept : goal.returns-in_ok-offer_kept
returns-in_ok-offer_kept c =
    let s = c.args.contents.now.lists in
    let r : Row = row_of c.out-out.result.now in
    let leads : (r.peer == c.args.peer) ≡ true = grind (arith, nat_tests, c.if-out-peer.true) in
    let clear : is_open s.outs c.args.row ≡ true = ap (λ (rows : List Row). is_open rows c.args.row) (sym c.outs.ensures.rows) ∙ sym c.is_open.ensures ∙ c.if-is_open.true in
    row_offered s c.args.self.now c.offer_kept.new.self c.args.row c.args.cursor c.args.peer c.first_above-from.result c.max.result r c.out-out.ensures.row c.max.ensures
    c.first_above-from.ensures.rest leads clear c.in_ok-offer_kept.ensures
