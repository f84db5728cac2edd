use Rattle.mqb_history.proofs.Witnessing as witnessing
use Rattle.mqb_history.proofs.always_one_stream_world.Goals as goal

pub returns : goal.returns
returns c = witnessing.always_one_stream_world
