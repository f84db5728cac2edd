use Rattle.mqb_law_captures.proofs.Worked as worked
use Rattle.mqb_law_captures.proofs.one_is_traced.Goals as goal

pub returns : goal.returns
returns c = worked.one_is_traced
