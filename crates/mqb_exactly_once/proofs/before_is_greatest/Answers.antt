use Rattle.std.proofs.Common.{sym, subst}
use Rattle.mqb_exactly_once.specs.Words.{before}
use Rattle.mqb_exactly_once.specs.Truths.{IsGreatestKept}
use Rattle.mqb_exactly_once.proofs.Befores.{before_is_greatest, same_greatest}
use Rattle.mqb_exactly_once.proofs.before_is_greatest.Goals as goal

pub returns : goal.returns
returns c = λ committed expired s n m.
    let is = before_is_greatest committed expired s n in (
      λ h. same_greatest committed expired s n m (before committed expired s n) h is,
      λ h. subst (λ k. IsGreatestKept committed expired s n k) (sym h) is,
    )
