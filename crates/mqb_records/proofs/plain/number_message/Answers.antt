use Rattle.mqb_contents.proofs.Grown.{grown_trans}
use Rattle.mqb_records.proofs.plain.number_message.Goals as goal

pub returns-clause-grown : goal.returns-clause-grown
returns-clause-grown c = grown_trans c.note_local.ensures.grown c.take_number.ensures.grown
