use Rattle.mqb_runs.proofs.Streams as streams
use Rattle.mqb_runs.proofs.runs_show_streams.Goals as goal

pub returns : goal.returns
returns c = streams.show_streams c.always_one_stream_world.ensures c.commitments_lead_to_managers.ensures
