use Rattle.mqb_run_laws.proofs.Showing as showing
use Rattle.mqb_run_laws.proofs.transcripts_show_runs.Goals as goal

pub returns : goal.returns
returns c = showing.transcripts_show c.replies_show_choices.ensures
