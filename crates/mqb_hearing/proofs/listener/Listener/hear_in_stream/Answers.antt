use Rattle.mqb_hearing.proofs.Brought.{brings_none}
use Rattle.mqb_hearing.proofs.listener.Listener.hear_in_stream.Goals as goal

pub returns-else-is_ordinary-clause-brings : goal.returns-else-is_ordinary-clause-brings
returns-else-is_ordinary-clause-brings c = brings_none c.discarded.result c.args.packet.now.whole c.discarded.ensures.brings
