use Rattle.std.proofs.Common.{ap, inr}
use Rattle.mqb_hearing.specs.Arrivals.{Arrived, part_shown}
use Rattle.mqb_hearing.proofs.Planned.{as_planned_at}
use Rattle.mqb_hearing.proofs.listener.Listener.heard_owing.Goals as goal

pub returns-clause-heard : goal.returns-clause-heard
returns-clause-heard c = λ m. as_planned_at c.args.self.now (part_shown c.args.part) c.args.answer c.in_ok-arrival.arrival.written c.peer.result c.acked.result
    (ap (λ (a : Arrived). a.written) c.in_ok-arrival.ensures) c.peer.ensures c.acked.ensures c.session.result c.session.ensures c.args.owes m

pub returns-clause-brings : goal.returns-clause-brings
returns-clause-brings c = inr (ap (λ (a : Arrived). a.packet) c.in_ok-arrival.ensures)
