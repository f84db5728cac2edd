use Rattle.mqb_session.proofs.Closed.{all_closed}
use Rattle.mqb_session.proofs.laws.closed_stays.Goals as goal

pub returns-clause-closed : goal.returns-clause-closed
returns-clause-closed c = λ calls cause s closed. all_closed calls cause s closed
