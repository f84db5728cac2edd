use Rattle.mqb_transcript.specs.Texts.{arrival_text, arrivals_text}
use Rattle.mqb_transcript.specs.lemmas.Wrote.{wrote_item}
use Rattle.mqb_transcript.proofs.printer.Printer.arrivals.Goals as goal

pub loop-arrival-preserved : goal.loop-arrival-preserved
unfolding arrivals_text
loop-arrival-preserved c =
    wrote_item arrival_text _ _ _ c.args.arrivals.now c.loop-arrival.arrival-index c.arrival-item.result c.loop-arrival.invariant
    c.loop-arrival-test.true c.arrival-item.is c.in_ok-arrival.ensures
