use Rattle.mqb_session.proofs.Window.{all_within, window_stays}
use Rattle.mqb_session.proofs.laws.window_is_kept.Goals as goal

pub returns-clause-kept : goal.returns-clause-kept
returns-clause-kept c = λ calls s allowed within. all_within calls s allowed within

pub returns-clause-stays : goal.returns-clause-stays
returns-clause-stays c = λ call s ready. window_stays call s ready
