use Rattle.mqb_contents.proofs.Grown.{grown_trans}
use Rattle.mqb_arrivals.proofs.decisions.decide.Goals as goal

pub returns-in-Ok-clause-grown : goal.returns-in-Ok-clause-grown
returns-in-Ok-clause-grown c = grown_trans c.note_decision.ensures.grown c.arrive.ensures.grown
