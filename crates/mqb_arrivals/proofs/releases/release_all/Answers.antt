use Rattle.std.proofs.Common.{rules, ◌∙◌}
use Rattle.mqb_contents.proofs.Grown.{grown_trans}
use Rattle.mqb_arrivals.proofs.Waiting.{release_step}
use Rattle.mqb_arrivals.proofs.releases.release_all.Goals as goal

pub loop-number-preserved : goal.loop-number-preserved
loop-number-preserved c = record {
  so_far = release_step c.loop-number.draft.effect c.release.new.draft.effect c.in-Some.number c.next.new.self c.loop-number.number-iterator c.in-Some.ensures.steps
      c.in_ok-release.ensures.fit c.in_ok-release.ensures.ok ∙ c.loop-number.invariant.so_far;
  start = c.release.ensures.start ∙ c.loop-number.invariant.start;
  grown = grown_trans c.loop-number.invariant.grown c.release.ensures.grown;
  held = search rules;
}

pub returns-in_err-release-clause-grown : goal.returns-in_err-release-clause-grown
returns-in_err-release-clause-grown c = grown_trans c.loop-number.invariant.grown c.release.ensures.grown
