use Rattle.mqb_drafts.proofs.mqb_contents.Grown.{grown_trans}
use Rattle.mqb_rules.proofs.takes.take.Goals as goal

pub returns-in_err-after_take-clause-grown : goal.returns-in_err-after_take-clause-grown
returns-in_err-after_take-clause-grown c = grown_trans c.take_out.ensures.grown c.after_take.ensures.grown

pub returns-clause-grown : goal.returns-clause-grown
returns-clause-grown c = grown_trans c.take_out.ensures.grown (grown_trans c.after_take.ensures.grown c.note.ensures.grown)
