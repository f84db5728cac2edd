use Rattle.std.proofs.Common.{◌<◌, subst, sym, ◌∙◌}
use Rattle.mqb_session.specs.State as one_end
use Rattle.mqb_hearing.proofs.Heard.{got_more}
use Rattle.mqb_hearing.proofs.hearing.user_heard.Goals as goal

pub returns-clause-got : goal.returns-clause-got
returns-clause-got c = λ e. subst (λ (x : one_end.State). x.stored < x.got) (sym c.hear_head.ensures.left)
    (got_more c.unwrap_or-head.result c.args.session.now c.is_ready.ensures.kept (sym c.hear_head.ensures.heard ∙ e))
