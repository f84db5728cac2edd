use Rattle.mqb_law_meetings.proofs.Laws as laws
use Rattle.mqb_law_meetings.proofs.starts_leave_alone.Goals as goal

pub returns : goal.returns
returns c = laws.starts_leave_alone c.histories_are_orderly.ensures c.runs_have_histories.ensures
