use Rattle.mqb_exactly_once.proofs.Always.{run_grows}
use Rattle.mqb_exactly_once.proofs.runs_grow.Goals as goal

pub returns : goal.returns
returns c = λ channel more xs run. run_grows channel more xs run
