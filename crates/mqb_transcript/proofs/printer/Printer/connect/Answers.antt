use Rattle.mqb_transcript.specs.Generator.{connect_text}
use Rattle.mqb_transcript.specs.lemmas.Wrote.{then_wrote, last_wrote}
use Rattle.mqb_transcript.proofs.printer.Printer.connect.Goals as goal

pub returns : goal.returns
unfolding connect_text
returns c =
    last_wrote _ _ _ _ _ _ (then_wrote _ _ _ _ _ c.in_ok-put.ensures c.in_ok-number.ensures) c.put-2.ensures
