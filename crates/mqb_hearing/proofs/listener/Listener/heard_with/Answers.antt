use Rattle.std.proofs.Common.{ap, inr}
use Rattle.mqb_model.specs.records.Record.{Nothing}
use Rattle.mqb_hearing.specs.Arrivals.{Arrived}
use Rattle.mqb_hearing.proofs.Planned.{with_planned_at}
use Rattle.mqb_hearing.proofs.listener.Listener.heard_with.Goals as goal

pub returns-in-Ok-clause-heard : goal.returns-in-Ok-clause-heard
returns-in-Ok-clause-heard c = λ m. with_planned_at c.args.self.now Nothing c.args.answer c.in-Ok.arrival.written c.peer.result c.acked.result
    (ap (λ (a : Arrived). a.written) c.in-Ok.ensures) c.peer.ensures c.acked.ensures c.session.result c.session.ensures c.now.result c.now.ensures c.args.message c.args.refusal m

pub returns-in-Ok-clause-brings : goal.returns-in-Ok-clause-brings
returns-in-Ok-clause-brings c = inr (ap (λ (a : Arrived). a.packet) c.in-Ok.ensures)
