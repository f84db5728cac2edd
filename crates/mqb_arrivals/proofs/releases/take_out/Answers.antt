use Rattle.mqb_contents.proofs.Grown.{grown_trans}
use Rattle.mqb_arrivals.proofs.releases.take_out.Goals as goal

pub returns-clause-grown : goal.returns-clause-grown
returns-clause-grown c = grown_trans c.take_out_plain.ensures.grown c.note.ensures.grown
