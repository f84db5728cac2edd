use Rattle.std.proofs.Common.{sym, ◌∙◌, arith, false}
use Rattle.std.specs.Option.{option_map_or}
use Rattle.mqb_base.specs.Same.{same_guid}
use Rattle.mqb_model.specs.state.Resolving.{is_registered}
use Rattle.mqb_queue.proofs.Positions.{none_found}
use Rattle.mqb_rules.proofs.Searches.{found_seen, more_seen}
use Rattle.mqb_rules.proofs.resolving.index_registered.Goals as goal

pub returns-then-is_registered-clause-index : goal.returns-then-is_registered-clause-index
returns-then-is_registered-clause-index c = sym (found_seen (λ q. q.plan) (λ plan. option_map_or (same_guid c.args.guid) plan.public false)
    c.args.queues.now.lists.queues c.loop-k.k c.plan.result.now c.loop-k.invariant.none c.plan.ensures (sym c.is_registered.ensures ∙ c.if-is_registered.true))

pub loop-k-preserved : goal.loop-k-preserved
loop-k-preserved c = record {
  none = more_seen (λ q. q.plan) (λ plan. option_map_or (same_guid c.args.guid) plan.public false)
      c.args.queues.now.lists.queues c.loop-k.k c.plan.result.now c.loop-k.invariant.none c.plan.ensures (sym c.is_registered.ensures ∙ c.if-is_registered.false);
  end = c.loop-k.invariant.end;
}

pub returns-clause-index : goal.returns-clause-index
returns-clause-index c = sym (none_found (is_registered c.args.guid) c.args.queues.now.lists.queues c.loop-k.k c.loop-k.invariant.none
    (omega (arith, c.loop-k-test.false, c.loop-k.invariant.end)))
