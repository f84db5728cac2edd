use Rattle.mqb_contents.proofs.Grown.{grown_trans}
use Rattle.mqb_state.proofs.attempting.try_both.Goals as goal

pub returns-in_err-beside_done-in-Ok-clause-grown : goal.returns-in_err-beside_done-in-Ok-clause-grown
returns-in_err-beside_done-in-Ok-clause-grown c = grown_trans c.try_entry.ensures.grown c.beside_done.ensures.grown

pub returns-in_ok-beside_done-in-Ok-clause-grown : goal.returns-in_ok-beside_done-in-Ok-clause-grown
returns-in_ok-beside_done-in-Ok-clause-grown c = grown_trans c.try_entry.ensures.grown c.beside_done.ensures.grown
