use Rattle.std.proofs.Common.{◌∷◌, [], codes}
use Rattle.mqb_listing.specs.Lines.{in_line, route_text}
use Rattle.mqb_transcript.specs.Texts.{manager_text}
use Rattle.mqb_transcript.specs.lemmas.Wrote.{then_wrote}
use Rattle.mqb_listing.proofs.Writing.{last_part, line_of_parts, then_told}
use Rattle.mqb_listing.proofs.rows.put_in.Goals as goal

pub returns : goal.returns
unfolding in_line
returns c =
    let row = c.args.row.now in let hosts = c.args.printer.now.hosts in
    let source = then_told (λ hosts. manager_text hosts row.source) _ _ _ _ c.in_ok-begin.ensures c.in_ok-manager.ensures in
    let route = then_wrote _ _ _ _ _ source c.in_ok-put_route.ensures in
    last_part _ _ _ _ _ _ _ route c.put.ensures
    (line_of_parts c.args.host.now (codes "in ") (manager_text hosts row.source) (route_text row.destination (row.sequence.ordinal ∷ row.last ∷ [])))
