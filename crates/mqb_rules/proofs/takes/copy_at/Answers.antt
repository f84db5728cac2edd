use Rattle.std.proofs.Common.{sym}
use Rattle.mqb_rules.proofs.Searches.{message_within}
use Rattle.mqb_rules.proofs.takes.copy_at.Goals as goal

pub returns-in_ok-clone-in-Some-clause-there : goal.returns-in_ok-clone-in-Some-clause-there
returns-in_ok-clone-in-Some-clause-there c = message_within c.args.lane c.args.contents.now.lists c.args.at c.args.index c.in-Some.message.now
    (sym c.in-Some.ensures.message)
