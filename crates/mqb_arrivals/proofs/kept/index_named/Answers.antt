use Rattle.std.proofs.Common.{sym, ◌∙◌, arith, ◌≡◌, length}
use Rattle.std.specs.Prelude.{◌&&◌, nat_le}
use Rattle.mqb_model.specs.records.Finals.{names_kept}
use Rattle.mqb_arrivals.proofs.Searching.{first_at, none_at, none_more, none_whole}
use Rattle.mqb_arrivals.proofs.kept.index_named.Goals as goal

pub returns-then-is_named-clause-index : goal.returns-then-is_named-clause-index
returns-then-is_named-clause-index c = sym (first_at (λ k. names_kept c.args.id k && nat_le k.number c.args.offered) c.args.kept.now.items c.loop-at.at c.get.result.now
    c.loop-at.invariant c.get.ensures.kept (sym c.is_named.ensures ∙ c.if-is_named.true))

pub loop-at-preserved : goal.loop-at-preserved
loop-at-preserved c = none_more (λ k. names_kept c.args.id k && nat_le k.number c.args.offered) c.args.kept.now.items c.loop-at.at c.get.result.now
    c.loop-at.invariant c.get.ensures.kept (sym c.is_named.ensures ∙ c.if-is_named.false)

pub returns-clause-index : goal.returns-clause-index
returns-clause-index c =
    let len = c.len-at-end.ensures.len in
    let past = c.loop-at-test.false in
    let within = c.loop-at.auto.at-end in
    let whole : length c.args.kept.now.items ≡ c.loop-at.at = omega (arith, len, past, within) in
    sym (none_at (λ k. names_kept c.args.id k && nat_le k.number c.args.offered) c.args.kept.now.items
    (none_whole (λ k. names_kept c.args.id k && nat_le k.number c.args.offered) c.args.kept.now.items c.loop-at.at whole c.loop-at.invariant))
