use Rattle.mqb_listing.specs.Lines.{in_line}
use Rattle.mqb_transcript.specs.lemmas.Wrote.{wrote_item}
use Rattle.mqb_listing.proofs.rows.put_ins.Goals as goal

pub loop-row-preserved : goal.loop-row-preserved
loop-row-preserved c =
    wrote_item (λ hosts r. in_line hosts c.args.host.now r) _ _ _ c.args.rows.now c.loop-row.row-index c.row-item.result c.loop-row.invariant
    c.loop-row-test.true c.row-item.is c.in_ok-put_in.ensures
