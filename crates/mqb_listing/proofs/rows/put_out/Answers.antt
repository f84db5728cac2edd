use Rattle.std.proofs.Common.{◌∷◌, [], codes}
use Rattle.std.specs.Fmt.{decimal}
use Rattle.mqb_listing.specs.Lines.{out_line, route_text}
use Rattle.mqb_transcript.specs.lemmas.Wrote.{then_wrote}
use Rattle.mqb_listing.proofs.Writing.{last_part, line_of_parts}
use Rattle.mqb_listing.proofs.rows.put_out.Goals as goal

pub returns : goal.returns
unfolding out_line
returns c =
    let row = c.args.row.now in
    let ordinal = then_wrote _ _ _ _ _ c.in_ok-begin.ensures c.in_ok-number.ensures in
    let route = then_wrote _ _ _ _ _ ordinal c.in_ok-put_route.ensures in
    last_part _ _ _ _ _ _ _ route c.put.ensures
    (line_of_parts c.args.host.now (codes "out ") (decimal row.sequence.ordinal) (route_text row.destination (row.committed ∷ row.offered ∷ row.acked ∷ [])))
