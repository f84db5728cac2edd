use Rattle.mqb_network.proofs.Joining as joining
use Rattle.mqb_network.proofs.laws.moves_are_events.Goals as goal

pub returns : goal.returns
returns c = joining.move_in_course
