use Rattle.mqb_net.proofs.Pieces.{heard_behind}
use Rattle.mqb_net.proofs.ahead.hear_behind.Goals as goal

pub returns-in-Ok-clause-gave : goal.returns-in-Ok-clause-gave
returns-in-Ok-clause-gave g c = heard_behind _ _ _ _ _ _ _ c.len-len.ensures c.truncate.ensures.items c.in-Ok.ensures.reads.gave
