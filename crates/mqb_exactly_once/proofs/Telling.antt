-- What the destination acknowledges was decided, and what it tells is the fate of what was decided.
use Rattle.std.proofs.Common.{◌≡◌, ◌≤◌, ◌⊎◌, inl, inr, true, List, [], ◌∷◌, Some, refl, sym, ap, subst, ◌∙◌, le_trans, arith}
use Rattle.mqb_base.specs.declared.ids.SequenceId.{SequenceId}
use Rattle.mqb_orders.specs.declared.judging.Verdict.{Verdict}
use Rattle.mqb_orders.specs.declared.judging.Verdict.TheVariants.{Next}
use Rattle.mqb_exactly_once.specs.Outcomes.{Outcome, Put, Refused, Was_put, Follows}
use Rattle.mqb_exactly_once.specs.World.{Position, Decision, KnownFate, OrderAck, FinalAck, StreamWorld}
use Rattle.mqb_exactly_once.specs.Words.{In, position_of, kept, last, newest}
use Rattle.mqb_exactly_once.specs.Steps.{StreamStep, Arrive, Fate, Acknowledge, Tell, decision, decided_after, fates_after, verdict, happens, May}
use Rattle.mqb_exactly_once.specs.Growth.{Grows}
use Rattle.mqb_exactly_once.specs.Truths.{MarksStand, IsAcknowledgement, IsFate, IsTold}
use Rattle.mqb_exactly_once.proofs.Decisions.{DecisionsRise, last_greatest}
use Rattle.mqb_exactly_once.proofs.Deciding.{DecisionsSettled}

-- ---- order acknowledgements

abbrev pub OrderAcksTrue : StreamWorld → Type 0
OrderAcksTrue w = (a : OrderAck) → In a w.order_acks → IsAcknowledgement w a

stays_true : (v w : StreamWorld) (a : OrderAck) → Grows v w → MarksStand v a.position.sequence → IsAcknowledgement v a → IsAcknowledgement w a
stays_true v w a g m is = record {
  kept = g.kept a.position (le_trans is.decided m.decided_was_offered) ∙ is.kept;
  decided = le_trans is.decided (g.last a.position.sequence);
}

-- a decision is kept, and its number is at most the last one of its sequence
pub decided_is_kept : (w : StreamWorld) (d : Decision) → DecisionsRise w.decided → DecisionsSettled w → In d w.decided
    → (kept w d.position ≡ true) × (d.position.number ≤ last w.decided d.position.sequence)
decided_is_kept w d rise settled inside = ((settled d inside).2.kept, last_greatest w.decided d rise inside)

newest_was_decided : (ds : List Decision) (p : Position) → newest ds ≡ Some p → (d : Decision) × In d ds × (d.position ≡ p)
newest_was_decided [] p is = absurd (grind arith)
newest_was_decided (d ∷ ds) p is = (d, inl refl, grind arith)

pub order_acks_true : (w : StreamWorld) (x : StreamStep) → OrderAcksTrue w → ((s : SequenceId) → MarksStand w s) → DecisionsRise w.decided
    → DecisionsSettled w → May w x → Grows w (happens w x)
    → OrderAcksTrue (happens w x)
order_acks_true w (Acknowledge p) acks marks rise settled may g = sent
  where
    new : (kept w p ≡ true) × (p.number ≤ last w.decided p.sequence)
    new =
        let d = newest_was_decided w.decided p may.1 in
        subst (λ (q : Position). (kept w q ≡ true) × (q.number ≤ last w.decided q.sequence)) d.2 (decided_is_kept w d.0 rise settled d.1)

    sent : OrderAcksTrue (happens w (Acknowledge p))
    sent a (inl is) = subst (λ b. IsAcknowledgement (happens w (Acknowledge p)) b) is (record { kept = new.0; decided = new.1 })
    sent a (inr inside) = stays_true w (happens w (Acknowledge p)) a g (marks a.position.sequence) (acks a inside)
order_acks_true w x acks marks rise settled may g = λ a inside. stays_true w (happens w x) a g (marks a.position.sequence) (acks a inside)

-- ---- fates

abbrev pub FatesTrue : StreamWorld → Type 0
FatesTrue w = (f : KnownFate) → In f w.fates → IsFate w f

stays_fate : (v w : StreamWorld) (f : KnownFate) → Grows v w → IsFate v f → IsFate w f
stays_fate v w f g is = (is.0, g.decided is.0 is.1, is.2, is.3)

-- a fate is that of what was refused now, or was known before
from_fates_after : (v : Verdict) (d : Decision) (ds : List Decision) (fs : List KnownFate) (f : KnownFate)
    → In f (fates_after v d.position d.outcome fs)
    → (In d (decided_after v d ds) × (d.position ≡ f.position) × Follows d.outcome f.fate) ⊎ In f fs
from_fates_after v d ds fs f inside = at v d.outcome refl inside
  where
    at : (v : Verdict) (outcome : Outcome) → d.outcome ≡ outcome → In f (fates_after v d.position outcome fs)
        → (In d (decided_after v d ds) × (d.position ≡ f.position) × Follows d.outcome f.fate) ⊎ In f fs
    at Next (Refused reason) refused (inl is) = inl (
      inl refl,
      ap (λ g. g.position) is,
      subst (λ (o : Outcome). Follows o f.fate) (sym refused) (subst (λ g. Follows (Refused reason) g.fate) is refl),
    )
    at Next (Refused reason) refused (inr inside) = inr inside
    at Next Put put inside = inr inside
    at _ outcome is inside = inr inside

pub fates_true : (w : StreamWorld) (x : StreamStep) → FatesTrue w → May w x → Grows w (happens w x) → FatesTrue (happens w x)
fates_true w (Arrive p outcome) fates may g = λ f inside. at f (from_fates_after (verdict w p) (decision p outcome) w.decided w.fates f inside)
  where
    at : (f : KnownFate)
        → (In (decision p outcome) (decided_after (verdict w p) (decision p outcome) w.decided)
        × (position_of p.head ≡ f.position) × Follows outcome f.fate) ⊎ In f w.fates
        → IsFate (happens w (Arrive p outcome)) f
    at f (inl new) = (decision p outcome, new.0, new.1, new.2)
    at f (inr inside) = stays_fate w (happens w (Arrive p outcome)) f g (fates f inside)
fates_true w (Fate p departure) fates may g = known
  where
    known : FatesTrue (happens w (Fate p departure))
    known f (inl is) = subst (λ h. IsFate (happens w (Fate p departure)) h) is
        (may.0, may.1, may.2, subst (λ (o : Outcome). Follows o (Was_put departure)) (sym may.3) tt)
    known f (inr inside) = stays_fate w (happens w (Fate p departure)) f g (fates f inside)
fates_true w x fates may g = λ f inside. stays_fate w (happens w x) f g (fates f inside)

-- ---- final acknowledgements

abbrev pub FinalAcksTrue : StreamWorld → Type 0
FinalAcksTrue w = (a : FinalAck) → In a w.final_acks → IsTold w a

pub final_acks_true : (w : StreamWorld) (x : StreamStep) → FinalAcksTrue w → May w x → Grows w (happens w x) → FinalAcksTrue (happens w x)
final_acks_true w (Tell f) acks may g = sent
  where
    sent : FinalAcksTrue (happens w (Tell f))
    sent a (inl is) = subst (λ b. IsTold (happens w (Tell f)) b) is may.1
    sent a (inr inside) = acks a inside
final_acks_true w x acks may g = λ a inside. g.fates (record { position = a.position; fate = a.fate }) (acks a inside)

-- what a final acknowledgement speaks of was decided
pub told_was_decided : (w : StreamWorld) → DecisionsRise w.decided → DecisionsSettled w → FatesTrue w → FinalAcksTrue w
    → (a : FinalAck) → In a w.final_acks
    → (kept w a.position ≡ true) × (a.position.number ≤ last w.decided a.position.sequence)
told_was_decided w rise settled fates acks a inside =
    let fate = fates (record { position = a.position; fate = a.fate }) (acks a inside) in
    subst (λ (p : Position). (kept w p ≡ true) × (p.number ≤ last w.decided p.sequence)) fate.2 (decided_is_kept w fate.0 rise settled fate.1)
