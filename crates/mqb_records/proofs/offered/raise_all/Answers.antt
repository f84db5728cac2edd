use Rattle.std.proofs.Common.{rules, ap, ◌∙◌}
use Rattle.mqb_contents.proofs.Grown.{grown_trans}
use Rattle.mqb_model.specs.rules.Effects.{Effect}
use Rattle.mqb_records.proofs.Stepping.{mark_step}
use Rattle.mqb_records.proofs.offered.raise_all.Goals as goal

pub loop-mark-preserved : goal.loop-mark-preserved
loop-mark-preserved c = record {
  so_far = mark_step c.loop-mark.draft.effect.state c.raise.new.draft.effect.state c.in-Some.mark c.next.new.self c.loop-mark.mark-iterator c.in-Some.ensures.steps
      c.in_ok-raise.ensures.fit (ap (λ (e : Effect). e.state) c.in_ok-raise.ensures.ok) ∙ c.loop-mark.invariant.so_far;
  lines = ap (λ (e : Effect). e.lines) c.in_ok-raise.ensures.ok ∙ c.loop-mark.invariant.lines;
  start = c.raise.ensures.start ∙ c.loop-mark.invariant.start;
  grown = grown_trans c.loop-mark.invariant.grown c.raise.ensures.grown;
  held = search rules;
}

pub returns-in_err-raise-clause-grown : goal.returns-in_err-raise-clause-grown
returns-in_err-raise-clause-grown c = grown_trans c.loop-mark.invariant.grown c.raise.ensures.grown
