use Rattle.mqb_hearing.proofs.Brought.{brings_none}
use Rattle.mqb_hearing.proofs.listener.Listener.judged.Goals as goal

pub returns-in-Duplicate-clause-brings : goal.returns-in-Duplicate-clause-brings
returns-in-Duplicate-clause-brings c = brings_none c.hear_duplicate.result c.args.packet.now.whole c.hear_duplicate.ensures.brings

pub returns-in-Gap-clause-brings : goal.returns-in-Gap-clause-brings
returns-in-Gap-clause-brings c = brings_none c.heard_bare.result c.args.packet.now.whole c.heard_bare.ensures.brings

pub returns-in-Stale-clause-brings : goal.returns-in-Stale-clause-brings
returns-in-Stale-clause-brings c = brings_none c.heard_bare-in-Stale.result c.args.packet.now.whole c.heard_bare-in-Stale.ensures.brings
