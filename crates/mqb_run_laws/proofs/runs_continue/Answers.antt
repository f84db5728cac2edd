use Rattle.mqb_run_laws.proofs.Continuing as continuing
use Rattle.mqb_run_laws.proofs.runs_continue.Goals as goal

pub returns : goal.returns
returns c = continuing.continue c.requests_are_replied.ensures c.checkpoints_are_replied.ensures c.runs_have_histories.ensures c.histories_are_orderly.ensures
