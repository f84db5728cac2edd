use Rattle.std.proofs.Common.{sym, ◌∙◌, arith}
use Rattle.mqb_model.specs.rules.Timeouts.{expires}
use Rattle.mqb_orders.specs.Rows.{row_of}
use Rattle.mqb_queue.proofs.Positions.{found_here, none_found, none_more}
use Rattle.mqb_timeouts.proofs.expiries.index_in.Goals as goal

pub returns-then-expires-clause-index : goal.returns-then-expires-clause-index
returns-then-expires-clause-index c = sym (found_here (expires c.args.now (row_of c.args.row.now)) c.args.row.now.kept.items c.loop-k.k c.get.result.now
    c.loop-k.invariant.none c.get.ensures.kept (sym c.expires.ensures ∙ c.if-expires.true))

pub loop-k-preserved : goal.loop-k-preserved
loop-k-preserved c = record {
  none = none_more (expires c.args.now (row_of c.args.row.now)) c.args.row.now.kept.items c.loop-k.k c.get.result.now
      c.loop-k.invariant.none c.get.ensures.kept (sym c.expires.ensures ∙ c.if-expires.false);
  end = c.loop-k.invariant.end;
}

pub returns-clause-index : goal.returns-clause-index
returns-clause-index c = sym (none_found (expires c.args.now (row_of c.args.row.now)) c.args.row.now.kept.items c.loop-k.k c.loop-k.invariant.none
    (omega (arith, c.loop-k-test.false, c.loop-k.invariant.end)))
