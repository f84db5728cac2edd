use Rattle.mqb_law_meetings.proofs.Laws as laws
use Rattle.mqb_law_meetings.proofs.meetings_begin.Goals as goal

pub returns : goal.returns
returns c = laws.meetings_begin c.histories_are_orderly.ensures c.runs_have_histories.ensures
