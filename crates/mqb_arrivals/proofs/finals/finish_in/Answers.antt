use Rattle.mqb_contents.proofs.Grown.{grown_trans}
use Rattle.mqb_arrivals.proofs.finals.finish_in.Goals as goal

pub returns-clause-grown : goal.returns-clause-grown
returns-clause-grown c = grown_trans c.bury.ensures.grown c.take_out.ensures.grown
