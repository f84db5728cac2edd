use Rattle.std.proofs.Common.{inl}
use Rattle.mqb_hearing.proofs.hearing.hear_ack.Goals as goal

pub returns-in-Closed-clause-brings : goal.returns-in-Closed-clause-brings
returns-in-Closed-clause-brings c = inl c.by_session.ensures.brings
