use Rattle.mqb_history.proofs.Witnessing as witnessing
use Rattle.mqb_history.proofs.always_shown.Goals as goal

pub returns : goal.returns
returns c = witnessing.always_shown c.always_one_stream_world.ensures
