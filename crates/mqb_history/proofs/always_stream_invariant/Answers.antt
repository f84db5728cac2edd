use Rattle.mqb_history.proofs.Witnessing as witnessing
use Rattle.mqb_history.proofs.always_stream_invariant.Goals as goal

pub returns : goal.returns
returns c = witnessing.always_stream_invariant c.always_one_stream_world.ensures
