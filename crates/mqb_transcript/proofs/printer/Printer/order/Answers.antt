use Rattle.mqb_transcript.specs.Generator.{order_text}
use Rattle.mqb_transcript.specs.lemmas.Wrote.{last_wrote}
use Rattle.mqb_transcript.proofs.printer.Printer.order.Goals as goal

pub returns : goal.returns
unfolding order_text
returns c = last_wrote _ _ _ _ _ _ c.in_ok-put.ensures c.number.ensures
