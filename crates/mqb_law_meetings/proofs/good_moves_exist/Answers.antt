use Rattle.mqb_law_meetings.proofs.Laws as laws
use Rattle.mqb_law_meetings.proofs.good_moves_exist.Goals as goal

pub returns : goal.returns
returns c = laws.good_moves_exist
