use Rattle.std.proofs.Common.{sym, ◌∙◌}
use Rattle.mqb_model.specs.records.Finals.{names_kept}
use Rattle.mqb_arrivals.proofs.Searching.{any_there, none_more}
use Rattle.mqb_arrivals.proofs.kept.keeps_named.Goals as goal

pub returns-then-names_kept : goal.returns-then-names_kept
returns-then-names_kept c = sym (any_there (names_kept c.args.id) c.args.kept.now.items c.loop-at.at c.get.result.now c.get.ensures.kept
    (sym c.names_kept.ensures ∙ c.if-names_kept.true))

pub loop-at-preserved : goal.loop-at-preserved
loop-at-preserved c = none_more (names_kept c.args.id) c.args.kept.now.items c.loop-at.at c.get.result.now c.loop-at.invariant c.get.ensures.kept
    (sym c.names_kept.ensures ∙ c.if-names_kept.false)
