use Rattle.mqb_law_meetings.proofs.Laws as laws
use Rattle.mqb_law_meetings.proofs.something_is_sent.Goals as goal

pub returns : goal.returns
returns c = laws.something_is_sent c.histories_are_orderly.ensures c.runs_have_histories.ensures c.always_valid.ensures c.something_goes.ensures
