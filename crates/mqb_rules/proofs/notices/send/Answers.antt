use Rattle.mqb_drafts.proofs.mqb_contents.Grown.{grown_trans}
use Rattle.mqb_rules.proofs.notices.send.Goals as goal

pub returns-clause-grown : goal.returns-clause-grown
returns-clause-grown c = grown_trans c.take_number.ensures.grown c.place.ensures.grown
