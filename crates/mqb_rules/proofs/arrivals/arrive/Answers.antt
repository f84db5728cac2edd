use Rattle.std.proofs.Common.{Option, ap, sym, ◌∙◌}
use Rattle.mqb_base.specs.declared.class.Class.{Class}
use Rattle.mqb_base.specs.declared.class.TheConstants.Class.{REACHED_QUEUE}
use Rattle.mqb_queue.proofs.Changed.{on_ok}
use Rattle.mqb_model.specs.declared.target.Target.{Target}
use Rattle.mqb_model.specs.rules.Effects.{without_line}
use Rattle.mqb_model.specs.rules.Notices.{arrived, meets}
use Rattle.mqb_model.specs.state.Places.{placed}
use Rattle.mqb_model.specs.state.Resolving.{resolved}
use Rattle.mqb_model.specs.state.State.{State}
use Rattle.mqb_rules.proofs.arrivals.arrive.Goals as goal

pub returns-in-None-clause-ok : goal.returns-in-None-clause-ok
returns-in-None-clause-ok c =
    on_ok c.reach.result c.reach.ensures.ok (λ h. h
    ∙ (ap (λ (t : Target). without_line c.args.draft.now.effect (meets (placed c.args.draft.now.effect.state t c.args.message) c.args.message REACHED_QUEUE c.args.now))
    (c.resolved-target.ensures ∙ ap (λ (s : State). resolved s c.args.message.destination) c.contents.ensures)
    ∙ ap (λ (o : Option Class). without_line c.args.draft.now.effect (arrived c.args.draft.now.effect.state c.args.message c.args.now o)) (sym c.in-None.is)))
