use Rattle.mqb_contents.proofs.Grown.{grown_trans}
use Rattle.mqb_arrivals.proofs.finals.store_final.Goals as goal

pub returns-clause-grown : goal.returns-clause-grown
returns-clause-grown c = grown_trans c.finish.ensures.grown c.note.ensures.grown
