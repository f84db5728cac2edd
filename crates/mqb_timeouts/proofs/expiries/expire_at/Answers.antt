use Rattle.std.proofs.Common.{◌≡◌, Some, ap, sym, ◌∙◌}
use Rattle.std.specs.Option.{option_map}
use Rattle.mqb_queue.proofs.Changed.{on_ok}
use Rattle.mqb_model.specs.state.State.{State}
use Rattle.mqb_timeouts.specs.Waiting.{expired_line, kept_at}
use Rattle.mqb_timeouts.proofs.Expired.{expired_copied}
use Rattle.mqb_timeouts.proofs.expiries.expire_at.Goals as goal

pub returns-clause-ok : goal.returns-clause-ok
returns-clause-ok c =
    let is_line : expired_line c.args.now c.args.draft.now.effect.state c.args.k c.args.index ≡ Some c.in_ok-line.line =
    ap (λ (s : State). expired_line c.args.now s c.args.k c.args.index) (sym c.contents-contents.ensures) ∙ c.in_ok-line.ensures in
    let is_message : option_map (λ kept. kept.message) (kept_at c.args.draft.now.effect.state c.args.k c.args.index) ≡ Some c.in_ok-message.message =
    ap (λ (s : State). option_map (λ kept. kept.message) (kept_at s c.args.k c.args.index)) (sym c.contents-contents.ensures) ∙ c.in_ok-message.ensures in
    on_ok c.expire.result c.expire.ensures.ok (λ e. e ∙ expired_copied c.args.now c.args.k c.args.index c.args.draft.now.effect
    c.in_ok-line.line c.in_ok-message.message is_line is_message)
