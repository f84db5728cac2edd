use Rattle.mqb_session.proofs.Numbers.{user_numbers, recoverable_numbers}
use Rattle.mqb_session.proofs.laws.numbers_rise.Goals as goal

pub returns-clause-user : goal.returns-clause-user
returns-clause-user c = λ calls s. user_numbers calls s

pub returns-clause-recoverable : goal.returns-clause-recoverable
returns-clause-recoverable c = λ calls s. recoverable_numbers calls s
