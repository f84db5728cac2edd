use Rattle.mqb_queue.proofs.Names.{found_by_its_name}
use Rattle.mqb_queue.proofs.laws.found_by_its_name.Goals as goal

pub returns : goal.returns
returns c = found_by_its_name
