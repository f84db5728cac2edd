-- No kept number is skipped: each that is at most the last decided one of its sequence was decided.
use Rattle.std.proofs.Common.{◌≡◌, ◌<◌, ◌≤◌, ◌⊎◌, inl, inr, Bool, true, false, cond, ◌∷◌, refl, sym, ap₂, subst, ◌∙◌, le_trans, arith}
use Rattle.std.proofs.lemmas.Bool.{cases_order}
use Rattle.mqb_base.specs.declared.ids.SequenceId.{SequenceId}
use Rattle.mqb_base.specs.Sequences.{same_sequence}
use Rattle.mqb_orders.specs.declared.judging.Verdict.{Verdict}
use Rattle.mqb_orders.specs.declared.judging.Verdict.TheVariants.{Next}
use Rattle.mqb_exactly_once.specs.Outcomes.{Outcome}
use Rattle.mqb_exactly_once.specs.World.{Position, Transfer, StreamWorld}
use Rattle.mqb_exactly_once.specs.Words.{In, same_position, position_of, is_decided, kept, before, last}
use Rattle.mqb_exactly_once.specs.Steps.{StreamStep, Arrive, decision, decided_after, verdict, happens, May}
use Rattle.mqb_exactly_once.specs.Growth.{Grows}
use Rattle.mqb_exactly_once.specs.Truths.{MarksStand, IsTruthful}
use Rattle.mqb_exactly_once.proofs.Either.{or_left, or_right}
use Rattle.mqb_exactly_once.proofs.Positions.{same_sequence_is, same_position_refl}
use Rattle.mqb_exactly_once.proofs.Befores.{before_is_greatest}
use Rattle.mqb_exactly_once.proofs.Decisions.{DecisionsRise}
use Rattle.mqb_exactly_once.proofs.Judging.{IsNew, next_is_new}

abbrev pub NoneSkipped : StreamWorld → Type 0
NoneSkipped w = (p : Position) → kept w p ≡ true → p.number ≤ last w.decided p.sequence → is_decided w.decided p ≡ true

-- what was kept below a truthful packet that is next was decided
before_next : (w : StreamWorld) (t : Transfer) (p : Position) → NoneSkipped w → IsTruthful w t → IsNew w.decided t.head
    → t.head.sequence ≡ p.sequence → p.number < t.head.number → kept w p ≡ true → is_decided w.decided p ≡ true
before_next w t p skipped true_of new same below is_kept = skipped p is_kept within
  where
    at_most : p.number ≤ before w.committed w.expired t.head.sequence t.head.number
    at_most = (before_is_greatest w.committed w.expired t.head.sequence t.head.number).greatest p.number below
        (subst (λ s. kept w (record { sequence = s; number = p.number }) ≡ true) (sym same) is_kept)

    within : p.number ≤ last w.decided p.sequence
    within = subst (λ s. p.number ≤ last w.decided s) same (le_trans (subst (λ n. p.number ≤ n) (sym true_of.previous) at_most) new.linked)

skipped_after : (w : StreamWorld) (t : Transfer) (outcome : Outcome) → NoneSkipped w → IsTruthful w t → (v : Verdict)
    → (v ≡ Next → IsNew w.decided t.head)
    → (p : Position) → kept w p ≡ true → p.number ≤ last (decided_after v (decision t outcome) w.decided) p.sequence
    → is_decided (decided_after v (decision t outcome) w.decided) p ≡ true
skipped_after w t outcome skipped true_of Next new p is_kept = at (same_sequence t.head.sequence p.sequence) refl
  where
    decided_before : is_decided w.decided p ≡ true → is_decided (decision t outcome ∷ w.decided) p ≡ true
    decided_before h = or_right (same_position (position_of t.head) p) (is_decided w.decided p) h

    of_the_sequence : t.head.sequence ≡ p.sequence → (p.number ≡ t.head.number) ⊎ ((p.number < t.head.number) ⊎ (t.head.number < p.number))
        → p.number ≤ t.head.number
        → is_decided (decision t outcome ∷ w.decided) p ≡ true
    of_the_sequence same (inl is) within = or_left (same_position (position_of t.head) p) (is_decided w.decided p)
        (subst (λ q. same_position (position_of t.head) q ≡ true)
        (ap₂ (λ s n. record { sequence = s; number = n }) same (sym is)) (same_position_refl (position_of t.head)))
    of_the_sequence same (inr (inl below)) within = decided_before (before_next w t p skipped true_of (new refl) same below is_kept)
    of_the_sequence same (inr (inr above)) within = absurd (omega arith)

    at : (b : Bool) → same_sequence t.head.sequence p.sequence ≡ b → p.number ≤ cond b t.head.number (last w.decided p.sequence)
        → is_decided (decision t outcome ∷ w.decided) p ≡ true
    at true same within = of_the_sequence (same_sequence_is t.head.sequence p.sequence same) (cases_order p.number t.head.number) within
    at false other within = decided_before (skipped p is_kept within)
skipped_after w t outcome skipped true_of _ new p is_kept = λ within. skipped p is_kept within

pub none_skipped : (w : StreamWorld) (x : StreamStep) → NoneSkipped w → ((s : SequenceId) → MarksStand w s) → DecisionsRise w.decided
    → ((t : Transfer) → In t w.transfers → IsTruthful w t)
    → May w x → Grows w (happens w x) → NoneSkipped (happens w x)
none_skipped w (Arrive t outcome) skipped marks rise truthful may g = λ p is_kept within.
    skipped_after w t outcome skipped (truthful t may.1) (verdict w t) (next_is_new w.channel w.decided t.head rise) p is_kept within
none_skipped w x skipped marks rise truthful may g = λ p is_kept within.
    skipped p (sym (g.kept p (le_trans within (marks p.sequence).decided_was_offered)) ∙ is_kept) within
