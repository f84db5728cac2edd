use Rattle.std.proofs.Common.{◌≡◌, Some, ap, subst, sym, ◌∙◌}
use Rattle.std.specs.List.{position}
use Rattle.mqb_model.specs.rules.Effects.{Effect}
use Rattle.mqb_model.specs.rules.Timeouts.{cannot_be_received}
use Rattle.mqb_model.specs.state.State.{State}
use Rattle.mqb_timeouts.specs.Waiting.{NoneSwept, queued}
use Rattle.mqb_timeouts.proofs.Swept.{none_swept_before}
use Rattle.mqb_timeouts.proofs.sweeps.sweep_next.Goals as goal

pub returns-in_ok-sweep_at-in-Some-clause-next : goal.returns-in_ok-sweep_at-in-Some-clause-next
returns-in_ok-sweep_at-in-Some-clause-next c =
    let found : position (cannot_be_received c.args.now) (queued c.args.lane c.args.draft.now.effect.state c.args.k) ≡ Some c.in-Some.index =
    sym (c.in-Some.ensures ∙ ap (λ (s : State). position (cannot_be_received c.args.now) (queued c.args.lane s c.args.k)) c.contents.ensures) in
    subst (λ (x : Effect). NoneSwept c.args.lane c.args.now x.state c.args.k c.in-Some.index) (sym c.in_ok-sweep_at-in-Some.ensures.ok)
    (none_swept_before c.args.lane c.args.now c.args.k c.in-Some.index c.args.draft.now.effect found)
