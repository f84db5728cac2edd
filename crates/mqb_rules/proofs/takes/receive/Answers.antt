use Rattle.mqb_drafts.proofs.mqb_contents.Grown.{grown_trans}
use Rattle.mqb_rules.proofs.takes.receive.Goals as goal

pub returns-clause-grown : goal.returns-clause-grown
returns-clause-grown c = grown_trans c.copy_taken.ensures.grown c.meets.ensures.grown
