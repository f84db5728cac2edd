use Rattle.mqb_history.proofs.SentOnce as once
use Rattle.mqb_history.proofs.always_sent_rightly.Goals as goal

pub returns : goal.returns
returns c = once.always_sent_rightly
