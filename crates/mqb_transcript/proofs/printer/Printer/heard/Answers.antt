use Rattle.mqb_transcript.specs.Texts.{heard_text}
use Rattle.mqb_transcript.proofs.printer.Printer.heard.Goals as goal

pub returns-in-ExpressBounced : goal.returns-in-ExpressBounced
unfolding heard_text
returns-in-ExpressBounced c = rw c.in-ExpressBounced.is c.classed_about.ensures
