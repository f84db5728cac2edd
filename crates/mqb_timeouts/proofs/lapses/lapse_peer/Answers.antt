use Rattle.std.proofs.Common.{ap, sym, ◌∙◌, arith}
use Rattle.mqb_contents.proofs.Grown.{grown_trans}
use Rattle.mqb_model.specs.rules.Timeouts.{next_lapsed}
use Rattle.mqb_rules.proofs.Loops.{repeated_more}
use Rattle.mqb_timeouts.proofs.lapses.lapse_peer.Goals as goal

pub returns-in_err-from-clause-grown : goal.returns-in_err-from-clause-grown
returns-in_err-from-clause-grown c = grown_trans c.loop.invariant.grown c.lapse_next.ensures.grown

pub loop-preserved : goal.loop-preserved
loop-preserved c = record {
  so_far = c.in_ok-from.ensures.ok ∙ (ap (next_lapsed c.args.lane c.args.now c.args.k) c.loop.invariant.so_far
      ∙ sym (repeated_more c.loop.counter (next_lapsed c.args.lane c.args.now c.args.k) c.args.draft.now.effect));
  end = c.loop.invariant.end;
  none = c.in_ok-from.ensures.next;
  start = c.lapse_next.ensures.start ∙ c.loop.invariant.start;
  grown = grown_trans c.loop.invariant.grown c.lapse_next.ensures.grown;
  held = omega (arith, c.in_ok-from.ensures.held, c.loop.invariant.held);
}
