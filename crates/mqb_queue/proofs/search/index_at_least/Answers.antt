use Rattle.std.proofs.Common.{leb, ◌&&◌, sym, ◌∙◌, arith}
use Rattle.mqb_queue.specs.First.{is_wanted}
use Rattle.mqb_queue.proofs.Positions.{found_here, none_found, none_more}
use Rattle.mqb_queue.proofs.search.index_at_least.Goals as goal

pub returns-then-wants_at_least-clause-index : goal.returns-then-wants_at_least-clause-index
returns-then-wants_at_least-clause-index c =
    let k = c.args.choice.now in
    sym (found_here (λ m. is_wanted k.at k.moment k.id m && leb c.args.priority m.priority) c.args.messages.now c.loop-index.index c.at-message.result.now
    c.loop-index.invariant.none c.at-message.ensures (sym c.wants_at_least.ensures ∙ c.if-wants_at_least.true))

pub loop-index-preserved : goal.loop-index-preserved
loop-index-preserved c =
    let k = c.args.choice.now in
    record {
      none = none_more (λ m. is_wanted k.at k.moment k.id m && leb c.args.priority m.priority) c.args.messages.now c.loop-index.index c.at-message.result.now
          c.loop-index.invariant.none c.at-message.ensures (sym c.wants_at_least.ensures ∙ c.if-wants_at_least.false);
    }

pub returns-clause-index : goal.returns-clause-index
returns-clause-index c =
    let k = c.args.choice.now in
    sym (none_found (λ m. is_wanted k.at k.moment k.id m && leb c.args.priority m.priority) c.args.messages.now c.loop-index.index
    c.loop-index.invariant.none (omega (arith, c.loop-index-test.false)))
