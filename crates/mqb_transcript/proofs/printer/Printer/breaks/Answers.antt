use Rattle.mqb_transcript.specs.Generator.{breaks_text}
use Rattle.mqb_transcript.specs.lemmas.Wrote.{then_wrote, last_wrote}
use Rattle.mqb_transcript.proofs.printer.Printer.breaks.Goals as goal

pub returns : goal.returns
unfolding breaks_text
returns c =
    last_wrote _ _ _ _ _ _
    (then_wrote _ _ _ _ _ (then_wrote _ _ _ _ _ c.in_ok-broken.ensures c.in_ok-broken-2.ensures) c.in_ok-broken-3.ensures) c.broken-4.ensures
