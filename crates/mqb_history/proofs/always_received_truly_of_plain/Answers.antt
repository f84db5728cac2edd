use Rattle.mqb_history.proofs.Received as received
use Rattle.mqb_history.proofs.always_received_truly_of_plain.Goals as goal

pub returns : goal.returns
returns c = received.always_received_truly_of_plain
