use Rattle.mqb_hearing.proofs.Brought.{brings_none}
use Rattle.mqb_hearing.proofs.listener.Listener.hear_message.Goals as goal

pub returns-else-in_order-clause-brings : goal.returns-else-in_order-clause-brings
returns-else-in_order-clause-brings c = brings_none c.discarded.result c.args.packet.now.whole c.discarded.ensures.brings
