use Rattle.mqb_replies.proofs.Definitions as law
use Rattle.mqb_replies.proofs.laws.checkpoints_are_replied.Goals as goal

pub returns : goal.returns
returns c = law.checkpoints_are_replied
