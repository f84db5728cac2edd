use Rattle.std.proofs.Common.{ap, sym, ◌∙◌}
use Rattle.mqb_model.specs.calls.hear.Session.{by_session}
use Rattle.mqb_model.specs.calls.hear.Session.{set_up_answer}
use Rattle.mqb_hearing.proofs.hearing.hear_set_up.Goals as goal

pub returns-clause-heard : goal.returns-clause-heard
returns-clause-heard c = λ m. ap (by_session m c.args.session) (sym (c.set_up_answer-answer.ensures ∙ ap set_up_answer c.phase.ensures.phase)) ∙ c.by_session.ensures.heard m
