use Rattle.std.proofs.Common.{sym, ◌∙◌}
use Rattle.mqb_queue.specs.First.{is_wanted}
use Rattle.mqb_queue.proofs.Passed.{none_before, none_counted}
use Rattle.mqb_queue.proofs.search.index_with.Goals as goal

pub returns-then-count-eq0-clause-index : goal.returns-then-count-eq0-clause-index
returns-then-count-eq0-clause-index c =
    let k = c.args.choice.now in
    sym (none_counted (is_wanted k.at k.moment k.id) c.args.priority c.args.messages.now (sym c.requires.count ∙ c.if-count-eq0.true) c.requires.highest)

pub index_at_least-requires-clause-none : goal.index_at_least-requires-clause-none
index_at_least-requires-clause-none c =
    let k = c.args.choice.now in
    none_before k.at k.moment k.id c.args.priority c.args.pass c.args.messages.now c.has_passed.ensures.few c.requires.passed
    (sym c.has_passed.ensures.passed ∙ c.if-has_passed.true) c.requires.highest
