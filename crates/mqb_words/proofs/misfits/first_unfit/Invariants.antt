use Rattle.std.proofs.Common.{map}
use Rattle.mqb_words.specs.Misfits.{Fit}
use Rattle.mqb_words.proofs.misfits.first_unfit.Given as goal

abbrev pub invariant-loop-at : goal.invariant-loop-at
invariant-loop-at l = Fit (map (λ word. word.now) l.words) (map (λ word. word.now) l.sample) l.at
