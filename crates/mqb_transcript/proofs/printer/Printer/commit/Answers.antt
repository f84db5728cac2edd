use Rattle.mqb_transcript.specs.Generator.{commit_text}
use Rattle.mqb_transcript.specs.lemmas.Wrote.{then_wrote, last_wrote}
use Rattle.mqb_transcript.proofs.printer.Printer.commit.Goals as goal

pub returns : goal.returns
unfolding commit_text
returns c =
    last_wrote _ _ _ _ _ _
    (then_wrote _ _ _ _ _ (then_wrote _ _ _ _ _ c.in_ok-put.ensures c.in_ok-number.ensures) c.in_ok-orders.ensures) c.put-2.ensures
