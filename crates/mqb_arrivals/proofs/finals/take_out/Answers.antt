use Rattle.std.proofs.Common.{rules, ap, ◌∙◌, refl}
use Rattle.mqb_orders.specs.Rows.{acknowledged, row_of}
use Rattle.mqb_queue.proofs.Changed.{on_ok}
use Rattle.mqb_contents.proofs.Grown.{grown_trans}
use Rattle.mqb_contents.specs.Rows.{with_out}
use Rattle.mqb_model.specs.rules.Effects.{Effect, without_line}
use Rattle.mqb_arrivals.proofs.Finishing.{finished}
use Rattle.mqb_arrivals.proofs.finals.take_out.Goals as goal

pub returns-clause-ok : goal.returns-clause-ok
returns-clause-ok c = on_ok c.acknowledge.result c.acknowledge.ensures.ok (λ h. h
    ∙ (ap (λ (e : Effect). without_line e (with_out (acknowledged c.get.result.now.number) e.state c.args.row)) c.in_ok-take_out_kept.ensures.ok
    ∙ ap (without_line c.args.draft.now.effect) (finished c.args.draft.now.effect.state c.args.id c.args.row c.args.index c.get.result.now.number
    (row_of c.out.result.now) c.get.result.now (search rules) c.get.ensures.kept refl c.requires)))

pub returns-clause-grown : goal.returns-clause-grown
returns-clause-grown c = grown_trans c.take_out_kept.ensures.grown c.acknowledge.ensures.grown
