use Rattle.mqb_law_progress.proofs.Going.{something_goes}
use Rattle.mqb_law_progress.proofs.something_goes.Goals as goal

pub returns : goal.returns
returns c = λ m session now may fresh out. something_goes m session now may fresh out
