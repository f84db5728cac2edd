use Rattle.mqb_serving.proofs.Hearing.{packets_are_heard}
use Rattle.mqb_serving.proofs.laws.packets_are_heard.Goals as goal

pub returns : goal.returns
returns c = packets_are_heard
