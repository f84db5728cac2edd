use Rattle.mqb_contents.proofs.Grown.{grown_trans}
use Rattle.mqb_drafts.proofs.drafts.Draft.add_sequence.Goals as goal

pub returns-clause-grown : goal.returns-clause-grown
returns-clause-grown c = grown_trans c.change.ensures.grown c.change-2.ensures.grown
