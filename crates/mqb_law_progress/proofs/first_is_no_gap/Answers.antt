use Rattle.mqb_law_progress.proofs.Judging.{first_is_no_gap}
use Rattle.mqb_law_progress.proofs.first_is_no_gap.Goals as goal

pub returns : goal.returns
returns c = λ row k there first has. first_is_no_gap row k there first has
