use Rattle.mqb_history.proofs.SentKept as sent
use Rattle.mqb_history.proofs.sent_never_expires.Goals as goal

pub returns : goal.returns
returns c = sent.sent_never_expires
