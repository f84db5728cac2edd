use Rattle.mqb_drafts.proofs.mqb_contents.Grown.{grown_trans}
use Rattle.mqb_rules.proofs.notices.meets.Goals as goal

pub returns-in_err-tell_final-clause-grown : goal.returns-in_err-tell_final-clause-grown
returns-in_err-tell_final-clause-grown c = grown_trans c.tell_admin.ensures.grown c.tell_final.ensures.grown

pub returns-clause-grown : goal.returns-clause-grown
returns-clause-grown c = grown_trans c.tell_admin.ensures.grown (grown_trans c.tell_final.ensures.grown c.bury.ensures.grown)
