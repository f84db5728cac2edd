use Rattle.mqb_transcript.specs.Texts.{bracketed, lines_text}
use Rattle.mqb_transcript.specs.lemmas.Wrote.{wrote_item}
use Rattle.mqb_transcript.proofs.printer.Printer.ledger.Goals as goal

pub loop-line-preserved : goal.loop-line-preserved
unfolding lines_text
loop-line-preserved c =
    wrote_item bracketed _ _ _ c.args.lines.now c.loop-line.line-index c.line-item.result c.loop-line.invariant c.loop-line-test.true c.line-item.is
    c.in_ok-bracketed.ensures
