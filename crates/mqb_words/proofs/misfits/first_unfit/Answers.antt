use Rattle.std.proofs.Common.{◌≡◌, ℕ, ◌+◌, Bor, List, true, map, arith, sym, ◌∙◌}
use Rattle.std.proofs.lemmas.List.{length-map}
use Rattle.mqb_words.specs.Misfits.{begins}
use Rattle.mqb_words.proofs.Fronts.{one_more}
use Rattle.mqb_words.proofs.misfits.first_unfit.Goals as goal

pub loop-at-preserved : goal.loop-at-preserved
loop-at-preserved c =
    one_more (λ k. begins (map (λ word. word.now) c.args.words.now) (map (λ word. word.now) c.args.sample.now) (k + 1) ≡ true) c.loop-at.at
    c.loop-at.invariant (sym c.in_ok-begins.ensures ∙ c.if-not-branch.false)

pub returns-then-not-branch : goal.returns-then-not-branch
returns-then-not-branch c = record {
  within = let same = length-map c.args.words.now (λ (word : Bor (List ℕ)). word.now) in omega (arith, same, c.loop-at-test.true);
  before = c.loop-at.invariant;
  unfit = sym c.in_ok-begins.ensures ∙ c.if-not-branch.true;
}

pub returns : goal.returns
returns c k within = let same = length-map c.args.words.now (λ (word : Bor (List ℕ)). word.now) in c.loop-at.invariant k (omega (arith, same, within, c.loop-at-test.false))
