use Rattle.mqb_law_progress.proofs.Single as single
use Rattle.mqb_law_progress.proofs.one_at_a_time.Goals as goal

pub returns : goal.returns
returns c = λ m session now linked within small. single.one_at_a_time m now session within small linked
