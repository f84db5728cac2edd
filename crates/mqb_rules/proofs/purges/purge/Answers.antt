use Rattle.mqb_drafts.proofs.mqb_contents.Grown.{grown_trans}
use Rattle.mqb_rules.proofs.purges.purge.Goals as goal

pub returns-in_err-after_purge-clause-grown : goal.returns-in_err-after_purge-clause-grown
returns-in_err-after_purge-clause-grown c = grown_trans c.take_out.ensures.grown c.after_purge.ensures.grown

pub returns-clause-grown : goal.returns-clause-grown
returns-clause-grown c = grown_trans c.take_out.ensures.grown (grown_trans c.after_purge.ensures.grown c.note.ensures.grown)
