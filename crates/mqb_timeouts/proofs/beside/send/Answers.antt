use Rattle.mqb_contents.proofs.Grown.{grown_trans}
use Rattle.mqb_timeouts.proofs.beside.send.Goals as goal

pub returns-in-Ok-clause-grown : goal.returns-in-Ok-clause-grown
returns-in-Ok-clause-grown c = grown_trans c.take_express_number.ensures.grown c.plain_sent.ensures.grown
