use Rattle.mqb_law_meetings.proofs.Forgetting as forgetting
use Rattle.mqb_law_meetings.proofs.forgets.Goals as goal

pub returns : goal.returns
returns c = forgetting.forgets c.recovers.ensures c.histories_are_orderly.ensures c.runs_have_histories.ensures c.fates_are_awaited.ensures
