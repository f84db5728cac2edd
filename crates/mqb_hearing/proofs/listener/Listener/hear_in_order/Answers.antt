use Rattle.mqb_hearing.proofs.Brought.{brings_none}
use Rattle.mqb_hearing.proofs.listener.Listener.hear_in_order.Goals as goal

pub returns-then-is_express-clause-brings : goal.returns-then-is_express-clause-brings
returns-then-is_express-clause-brings c = brings_none c.hear_express.result c.args.packet.now.whole c.hear_express.ensures.brings
