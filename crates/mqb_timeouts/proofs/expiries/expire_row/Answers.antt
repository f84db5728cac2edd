use Rattle.std.proofs.Common.{ap, sym, ◌∙◌, arith}
use Rattle.mqb_contents.proofs.Grown.{grown_trans}
use Rattle.mqb_model.specs.rules.Timeouts.{next_expired}
use Rattle.mqb_rules.proofs.Loops.{repeated_more}
use Rattle.mqb_timeouts.proofs.expiries.expire_row.Goals as goal

pub returns-in_err-from-clause-grown : goal.returns-in_err-from-clause-grown
returns-in_err-from-clause-grown c = grown_trans c.loop.invariant.grown c.expire_next.ensures.grown

pub loop-preserved : goal.loop-preserved
loop-preserved c = record {
  so_far = c.in_ok-from.ensures.ok ∙ (ap (next_expired c.args.now c.args.k) c.loop.invariant.so_far
      ∙ sym (repeated_more c.loop.counter (next_expired c.args.now c.args.k) c.args.draft.now.effect));
  end = c.loop.invariant.end;
  none = c.in_ok-from.ensures.next;
  start = c.expire_next.ensures.start ∙ c.loop.invariant.start;
  grown = grown_trans c.loop.invariant.grown c.expire_next.ensures.grown;
  held = omega (arith, c.in_ok-from.ensures.held, c.loop.invariant.held);
}
