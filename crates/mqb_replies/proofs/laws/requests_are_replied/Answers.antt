use Rattle.mqb_replies.proofs.Definitions as law
use Rattle.mqb_replies.proofs.laws.requests_are_replied.Goals as goal

pub returns : goal.returns
returns c = law.requests_are_replied
