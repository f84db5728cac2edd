use Rattle.mqb_serving.proofs.Resting.{pumps_come_to_rest}
use Rattle.mqb_serving.proofs.laws.pumps_come_to_rest.Goals as goal

pub returns : goal.returns
returns c = pumps_come_to_rest c.calls_keep_valid.ensures
