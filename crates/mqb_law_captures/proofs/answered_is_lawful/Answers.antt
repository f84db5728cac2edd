use Rattle.mqb_law_captures.proofs.Whole as whole
use Rattle.mqb_law_captures.proofs.answered_is_lawful.Goals as goal

pub returns : goal.returns
returns c = whole.answered_is_lawful
