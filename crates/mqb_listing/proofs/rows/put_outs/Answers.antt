use Rattle.mqb_orders.specs.Rows.{row_of}
use Rattle.mqb_listing.specs.Lines.{out_line}
use Rattle.mqb_transcript.specs.lemmas.Wrote.{wrote_item}
use Rattle.mqb_listing.proofs.rows.put_outs.Goals as goal

pub loop-row-preserved : goal.loop-row-preserved
loop-row-preserved c =
    wrote_item (λ hosts r. out_line c.args.host.now (row_of r)) _ _ _ c.args.rows.now c.loop-row.row-index c.row-item.result c.loop-row.invariant
    c.loop-row-test.true c.row-item.is c.in_ok-put_out.ensures
