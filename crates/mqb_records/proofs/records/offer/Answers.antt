use Rattle.mqb_records.proofs.Recording.{offered_applied, offered_unfit, on_both}
use Rattle.mqb_records.proofs.records.offer.Goals as goal

pub returns-clause-ok : goal.returns-clause-ok
returns-clause-ok c = on_both c.raise_all.result c.raise_all.ensures.ok c.raise_all.ensures.lines (λ made lines.
    offered_applied c.stepwise_is_effect.ensures c.args.draft.now.effect c.raise_all.new.draft.effect c.args.marks.now made lines)

pub returns-clause-unfit : goal.returns-clause-unfit
returns-clause-unfit c h = offered_unfit c.stepwise_is_effect.ensures c.args.draft.now.effect.state c.args.marks.now (c.raise_all.ensures.unfit h)
