use Rattle.mqb_choosing.proofs.Noted.{sent_next}
use Rattle.mqb_choosing.proofs.laws.sent_are_next.Goals as goal

pub returns : goal.returns
returns c = sent_next
