use Rattle.mqb_contents.proofs.Grown.{grown_trans}
use Rattle.mqb_records.proofs.plain.send_message.Goals as goal

pub returns-in-Ok-clause-grown : goal.returns-in-Ok-clause-grown
returns-in-Ok-clause-grown c = grown_trans c.number_message.ensures.grown c.plain_sent.ensures.grown
