use Rattle.mqb_transcript.specs.Generator.{order_of}
use Rattle.mqb_transcript.specs.lemmas.Wrote.{wrote_number}
use Rattle.mqb_transcript.proofs.printer.Printer.orders.Goals as goal

pub loop-place-preserved : goal.loop-place-preserved
loop-place-preserved c =
    wrote_number (order_of c.args.n) _ _ _ c.args.first c.loop-place.place c.loop-place.invariant c.in_ok-order_of.ensures
