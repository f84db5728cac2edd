use Rattle.std.specs.Fmt.{decimal}
use Rattle.mqb_transcript.specs.Texts.{spaced, numbers_text}
use Rattle.mqb_transcript.specs.lemmas.Wrote.{wrote_more}
use Rattle.mqb_transcript.proofs.printer.Printer.numbers.Goals as goal

pub loop-number-preserved : goal.loop-number-preserved
unfolding numbers_text
loop-number-preserved c =
    wrote_more (λ hosts n. spaced (decimal n)) _ _ _ c.args.numbers.now c.loop-number.number-index 0 c.loop-number.invariant c.loop-number-test.true
    c.in_ok-spaced_number.ensures
