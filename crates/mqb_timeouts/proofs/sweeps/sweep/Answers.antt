use Rattle.mqb_contents.proofs.Grown.{grown_trans}
use Rattle.mqb_timeouts.proofs.sweeps.sweep.Goals as goal

pub returns-in_err-meets-clause-grown : goal.returns-in_err-meets-clause-grown
returns-in_err-meets-clause-grown c = grown_trans c.take_out.ensures.grown c.meets.ensures.grown

pub returns-clause-grown : goal.returns-clause-grown
returns-clause-grown c = grown_trans c.take_out.ensures.grown (grown_trans c.meets.ensures.grown c.note.ensures.grown)
