use Rattle.std.proofs.Common.{rules, ap, ◌∙◌, ◌≡◌, Some}
use Rattle.mqb_queue.proofs.Changed.{on_ok}
use Rattle.mqb_model.specs.rules.Effects.{without_line}
use Rattle.mqb_model.specs.state.Rows.{in_index}
use Rattle.mqb_arrivals.proofs.Deciding.{decided_is}
use Rattle.mqb_arrivals.proofs.decisions.advance.Goals as goal

pub returns-in-Some-clause-ok : goal.returns-in-Some-clause-ok
returns-in-Some-clause-ok c =
    let found : in_index c.args.draft.now.effect.state c.args.message.now ≡ Some c.in-Some.index = search rules in
    on_ok c.decide.result c.decide.ensures.ok (λ h. h
    ∙ ap (without_line c.args.draft.now.effect) (decided_is c.args.draft.now.effect.state c.args.message.now c.args.tx c.in-Some.index found))
