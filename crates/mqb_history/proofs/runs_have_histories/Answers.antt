use Rattle.mqb_history.proofs.Runs as runs
use Rattle.mqb_history.proofs.runs_have_histories.Goals as goal

pub returns : goal.returns
returns c = runs.runs_have_histories
