use Rattle.std.proofs.Common.{◌≡◌, Some, ap, subst, sym, ◌∙◌}
use Rattle.std.specs.List.{position}
use Rattle.mqb_model.specs.rules.Effects.{Effect}
use Rattle.mqb_model.specs.rules.Timeouts.{lapses}
use Rattle.mqb_model.specs.state.State.{State}
use Rattle.mqb_timeouts.specs.Waiting.{NoneLapses, waiting}
use Rattle.mqb_timeouts.proofs.Lapsed.{none_lapses_before}
use Rattle.mqb_timeouts.proofs.lapses.lapse_next.Goals as goal

pub returns-in_ok-lapse_at-in-Some-clause-next : goal.returns-in_ok-lapse_at-in-Some-clause-next
returns-in_ok-lapse_at-in-Some-clause-next c =
    let found : position (lapses c.args.now) (waiting c.args.lane c.args.draft.now.effect.state c.args.k) ≡ Some c.in-Some.index =
    sym (c.in-Some.ensures ∙ ap (λ (s : State). position (lapses c.args.now) (waiting c.args.lane s c.args.k)) c.contents.ensures) in
    subst (λ (x : Effect). NoneLapses c.args.lane c.args.now x.state c.args.k c.in-Some.index) (sym c.in_ok-lapse_at-in-Some.ensures.ok)
    (none_lapses_before c.args.lane c.args.now c.args.k c.in-Some.index c.args.draft.now.effect found)
