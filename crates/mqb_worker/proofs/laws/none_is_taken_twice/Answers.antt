use Rattle.mqb_worker.proofs.Twice.{none_is_taken_twice}
use Rattle.mqb_worker.proofs.laws.none_is_taken_twice.Goals as goal

pub returns : goal.returns
returns c = none_is_taken_twice c.always_copied_rightly.ensures c.always_received_truly.ensures
