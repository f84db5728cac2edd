use Rattle.mqb_contents.proofs.Grown.{grown_trans}
use Rattle.mqb_timeouts.proofs.beside.hear.Goals as goal

pub returns-in-Ok-clause-grown : goal.returns-in-Ok-clause-grown
returns-in-Ok-clause-grown c = grown_trans c.drop_acked.ensures.grown c.arrive.ensures.grown
