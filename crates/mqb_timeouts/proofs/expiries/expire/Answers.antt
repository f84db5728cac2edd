use Rattle.mqb_contents.proofs.Grown.{grown_trans}
use Rattle.mqb_timeouts.proofs.expiries.expire.Goals as goal

pub returns-in_err-take_out_kept-clause-grown : goal.returns-in_err-take_out_kept-clause-grown
returns-in_err-take_out_kept-clause-grown c = grown_trans c.note.ensures.grown c.take_out_kept.ensures.grown

pub returns-clause-grown : goal.returns-clause-grown
returns-clause-grown c = grown_trans c.note.ensures.grown (grown_trans c.take_out_kept.ensures.grown c.meets.ensures.grown)
