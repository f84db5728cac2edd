use Rattle.std.proofs.Common.{sym, ◌∙◌, arith}
use Rattle.mqb_model.specs.rules.Timeouts.{cannot_be_received}
use Rattle.mqb_queue.proofs.Positions.{found_here, none_found, none_more}
use Rattle.mqb_timeouts.proofs.sweeps.index_due_from.Goals as goal

pub returns-then-cannot_be_received-clause-index : goal.returns-then-cannot_be_received-clause-index
returns-then-cannot_be_received-clause-index c = sym (found_here (cannot_be_received c.args.now) c.args.messages.now c.loop-index.index c.at-message.result.now
    c.loop-index.invariant.none c.at-message.ensures (sym c.cannot_be_received.ensures ∙ c.if-cannot_be_received.true))

pub loop-index-preserved : goal.loop-index-preserved
loop-index-preserved c = record {
  none = none_more (cannot_be_received c.args.now) c.args.messages.now c.loop-index.index c.at-message.result.now c.loop-index.invariant.none c.at-message.ensures
      (sym c.cannot_be_received.ensures ∙ c.if-cannot_be_received.false);
}

pub returns-clause-index : goal.returns-clause-index
returns-clause-index c = sym (none_found (cannot_be_received c.args.now) c.args.messages.now c.loop-index.index c.loop-index.invariant.none
    (omega (arith, c.loop-index-test.false)))
