use Rattle.std.proofs.Common.{None, ap, sym}
use Rattle.mqb_timeouts.specs.declared.work.ExpressWork.TheVariants as work
use Rattle.mqb_hearing.specs.Arrivals.{Arrived}
use Rattle.mqb_hearing.specs.Plans.{outcome_of}
use Rattle.mqb_hearing.proofs.hearing.by_session.Goals as goal

pub returns-clause-heard : goal.returns-clause-heard
returns-clause-heard c = λ m. ap (λ (a : Arrived). outcome_of m (record { answer = c.args.answer; session = c.args.session; arrival = a; work = work.Nothing; owes = None })) (sym c.nothing.ensures)
