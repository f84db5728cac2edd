use Rattle.mqb_law_meetings.proofs.Laws as laws
use Rattle.mqb_law_meetings.proofs.drained_meet_in_vain.Goals as goal

pub returns : goal.returns
returns c = laws.drained_meet_in_vain c.histories_are_orderly.ensures c.runs_have_histories.ensures
