-- What expired was due, and expired once.
use Rattle.std.proofs.Common.{◌≡◌, inl, inr, true, refl, subst}
use Rattle.mqb_exactly_once.specs.World.{Commitment, Expiry, StreamWorld}
use Rattle.mqb_exactly_once.specs.Words.{In, due}
use Rattle.mqb_exactly_once.specs.Steps.{StreamStep, Expire, happens, May}
use Rattle.mqb_exactly_once.specs.ExactlyOnce.{Differ}
use Rattle.mqb_exactly_once.specs.Growth.{Grows}
use Rattle.mqb_exactly_once.proofs.Members.{kept_is_not_expired}

abbrev pub IsDueExpiry : StreamWorld → Expiry → Type 0
IsDueExpiry w e = (c : Commitment) × In c w.committed × (c.position ≡ e.position) × (due c.message e.moment ≡ true)

abbrev pub ExpiriesDue : StreamWorld → Type 0
ExpiriesDue w = (e : Expiry) → In e w.expired → IsDueExpiry w e

stays_due : (v w : StreamWorld) (e : Expiry) → Grows v w → IsDueExpiry v e → IsDueExpiry w e
stays_due v w e g is = (is.0, g.committed is.0 is.1, is.2, is.3)

pub expiries_due : (w : StreamWorld) (x : StreamStep) → ExpiriesDue w → May w x → Grows w (happens w x) → ExpiriesDue (happens w x)
expiries_due w (Expire c moment) expiries may g = due_ones
  where
    due_ones : ExpiriesDue (happens w (Expire c moment))
    due_ones e (inl is) = subst (λ f. IsDueExpiry w f) is (c, may.0, refl, may.3)
    due_ones e (inr inside) = stays_due w (happens w (Expire c moment)) e g (expiries e inside)
expiries_due w x expiries may g = λ e inside. stays_due w (happens w x) e g (expiries e inside)

pub expiries_differ : (w : StreamWorld) (x : StreamStep) → Differ w.expired → May w x → Differ (happens w x).expired
expiries_differ w (Expire c moment) differ may = (kept_is_not_expired w.committed w.expired c.position may.1, differ)
expiries_differ w _ differ may = differ
