use Rattle.std.proofs.Common.{◌≡◌, Some, ap, subst, sym, ◌∙◌}
use Rattle.mqb_model.specs.rules.Effects.{Effect}
use Rattle.mqb_model.specs.state.State.{State}
use Rattle.mqb_timeouts.specs.Waiting.{NoneExpires, expiring_index}
use Rattle.mqb_timeouts.proofs.Expired.{none_expires_before}
use Rattle.mqb_timeouts.proofs.expiries.expire_next.Goals as goal

pub returns-in_ok-expire_at-in-Some-clause-next : goal.returns-in_ok-expire_at-in-Some-clause-next
returns-in_ok-expire_at-in-Some-clause-next c =
    let found : expiring_index c.args.now c.args.draft.now.effect.state c.args.k ≡ Some c.in-Some.index =
    sym (c.in-Some.ensures.index ∙ ap (λ (s : State). expiring_index c.args.now s c.args.k) c.contents.ensures) in
    subst (λ (x : Effect). NoneExpires c.args.now x.state c.args.k c.in-Some.index) (sym c.in_ok-expire_at-in-Some.ensures.ok)
    (none_expires_before c.args.now c.args.k c.in-Some.index c.args.draft.now.effect found)
