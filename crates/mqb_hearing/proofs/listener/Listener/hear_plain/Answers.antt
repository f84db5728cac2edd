use Rattle.mqb_hearing.proofs.Brought.{brings_none}
use Rattle.mqb_hearing.proofs.listener.Listener.hear_plain.Goals as goal

pub returns-in-Some-clause-brings : goal.returns-in-Some-clause-brings
returns-in-Some-clause-brings c = brings_none c.hear_order_ack.result c.args.packet.now.whole c.hear_order_ack.ensures.brings
