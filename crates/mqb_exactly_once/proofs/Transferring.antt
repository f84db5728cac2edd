-- Each packet that was ever sent is truthful.
use Rattle.std.proofs.Common.{inl, inr, refl, sym, subst, ◌∙◌, le_trans, arith}
use Rattle.mqb_exactly_once.specs.World.{Transfer, StreamWorld}
use Rattle.mqb_exactly_once.specs.Words.{In, position_of}
use Rattle.mqb_exactly_once.specs.Steps.{StreamStep, Send, transfer, happens, May}
use Rattle.mqb_exactly_once.specs.Growth.{Grows}
use Rattle.mqb_exactly_once.specs.Truths.{IsTruthful}
use Rattle.mqb_exactly_once.proofs.Befores.{before_same}

abbrev pub TransfersTruthful : StreamWorld → Type 0
TransfersTruthful w = (t : Transfer) → In t w.transfers → IsTruthful w t

pub stays_truthful : (v w : StreamWorld) (t : Transfer) → Grows v w → IsTruthful v t → IsTruthful w t
stays_truthful v w t g is = record {
  kept = g.kept (position_of t.head) is.offered ∙ is.kept;
  offered = le_trans is.offered (g.offered t.head.sequence);
  previous = is.previous ∙ sym (before_same v.committed v.expired t.head.sequence w.committed w.expired t.head.number
      (λ k below. g.kept (record { sequence = t.head.sequence; number = k }) (omega (arith, is.offered))));
  message = (is.message.0, g.committed is.message.0 is.message.1, is.message.2, is.message.3);
}

pub transfers_truthful : (w : StreamWorld) (x : StreamStep) → TransfersTruthful w → May w x → Grows w (happens w x) → TransfersTruthful (happens w x)
transfers_truthful w (Send c moment) truthful may g = sent
  where
    new : IsTruthful (happens w (Send c moment)) (transfer w c moment)
    new = record {
      kept = may.2;
      offered = omega (arith, may.4);
      previous = refl;
      message = (c, may.1, refl, refl);
    }

    sent : TransfersTruthful (happens w (Send c moment))
    sent t (inl is) = subst (λ u. IsTruthful (happens w (Send c moment)) u) is new
    sent t (inr inside) = stays_truthful w (happens w (Send c moment)) t g (truthful t inside)
transfers_truthful w x truthful may g = λ t inside. stays_truthful w (happens w x) t g (truthful t inside)
