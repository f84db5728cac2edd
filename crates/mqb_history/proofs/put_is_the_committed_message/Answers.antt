use Rattle.mqb_history.proofs.Puts as puts
use Rattle.mqb_history.proofs.put_is_the_committed_message.Goals as goal

pub returns : goal.returns
returns c = puts.put_is_the_committed_message
