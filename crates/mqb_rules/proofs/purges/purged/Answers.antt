use Rattle.std.proofs.Common.{ap, sym, ◌∙◌, arith}
use Rattle.mqb_drafts.proofs.mqb_contents.Grown.{grown_trans}
use Rattle.mqb_model.specs.rules.Purges.{oldest_purged}
use Rattle.mqb_rules.proofs.Loops.{repeated_more}
use Rattle.mqb_rules.proofs.purges.purged.Goals as goal

pub returns-in_err-purge_oldest-clause-grown : goal.returns-in_err-purge_oldest-clause-grown
returns-in_err-purge_oldest-clause-grown c = grown_trans c.loop.invariant.grown c.purge_oldest.ensures.grown

pub loop-preserved : goal.loop-preserved
loop-preserved c = record {
  so_far = c.in_ok-purge_oldest.ensures.ok ∙ (ap (oldest_purged c.args.lane c.args.at c.args.now) c.loop.invariant.so_far
      ∙ sym (repeated_more c.loop.counter (oldest_purged c.args.lane c.args.at c.args.now) c.args.draft.now.effect));
  end = c.loop.invariant.end;
  start = c.purge_oldest.ensures.start ∙ c.loop.invariant.start;
  grown = grown_trans c.loop.invariant.grown c.purge_oldest.ensures.grown;
  held = omega (arith, c.in_ok-purge_oldest.ensures.held, c.loop.invariant.held);
}
