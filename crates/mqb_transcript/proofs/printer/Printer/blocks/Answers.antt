use Rattle.mqb_transcript.specs.Generator.{block_text}
use Rattle.mqb_transcript.specs.lemmas.Wrote.{wrote_number}
use Rattle.mqb_transcript.proofs.printer.Printer.blocks.Goals as goal

pub loop-index-preserved : goal.loop-index-preserved
loop-index-preserved c =
    wrote_number (block_text c.args.n) _ _ _ 1 c.loop-index.index c.loop-index.invariant c.in_ok-block.ensures
