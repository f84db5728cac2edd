use Rattle.mqb_answers.proofs.Definitions as law
use Rattle.mqb_answers.proofs.laws.outcomes_are_told.Goals as goal

pub returns : goal.returns
returns c = law.outcomes_are_told
