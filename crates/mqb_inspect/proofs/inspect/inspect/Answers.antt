use Rattle.std.proofs.Common.{sym, ◌∙◌}
use Rattle.mqb_inspect.proofs.Telling.{told_ends, told_says}
use Rattle.mqb_inspect.proofs.inspect.inspect.Goals as goal

pub returns-in-Ok-clause-says : goal.returns-in-Ok-clause-says
returns-in-Ok-clause-says g c = told_says _ _ c.in-Ok.text.items c.judge.result c.in-Ok.ensures.taken (λ whole e. c.judge.ensures.says whole (e ∙ sym c.deref.ensures.value))

pub returns-in-Ok-clause-ended : goal.returns-in-Ok-clause-ended
returns-in-Ok-clause-ended g c = told_ends _ _ c.in-Ok.text.items c.judge.result c.in-Ok.ensures.taken (λ whole e. c.judge.ensures.says whole (e ∙ sym c.deref.ensures.value))
