use Rattle.mqb_law_captures.proofs.Whole as whole
use Rattle.mqb_law_captures.proofs.served_is_lawful.Goals as goal

pub returns : goal.returns
returns c = whole.served_is_lawful
