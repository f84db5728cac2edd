-- The marks of each sequence stand: what is acknowledged was decided, and what was decided was offered.
use Rattle.std.proofs.Common.{◌≡◌, ℕ, ◌<◌, ◌≤◌, ◌⊎◌, inl, inr, max, Bool, true, false, cond, refl, subst, ◌∙◌, le_trans, arith}
use Rattle.std.proofs.lemmas.Bool.{cases_lt}
use Rattle.mqb_base.specs.declared.ids.SequenceId.{SequenceId}
use Rattle.mqb_base.specs.Sequences.{same_sequence}
use Rattle.mqb_orders.specs.declared.judging.Verdict.{Verdict}
use Rattle.mqb_orders.specs.declared.judging.Verdict.TheVariants.{Next}
use Rattle.mqb_exactly_once.specs.Outcomes.{Outcome}
use Rattle.mqb_exactly_once.specs.World.{Position, Transfer, OrderAck, FinalAck, StreamWorld}
use Rattle.mqb_exactly_once.specs.Words.{In, is_kept, kept, last}
use Rattle.mqb_exactly_once.specs.Steps.{StreamStep, Offer, Arrive, Acknowledged, Told, marked, raised, decision, decided_after, verdict, happens, May}
use Rattle.mqb_exactly_once.specs.Growth.{Grows}
use Rattle.mqb_exactly_once.specs.Truths.{IsMark, MarksStand, IsTruthful, IsAcknowledgement}
use Rattle.mqb_exactly_once.proofs.Positions.{same_sequence_is}
use Rattle.mqb_exactly_once.proofs.Decisions.{DecisionsRise}
use Rattle.mqb_exactly_once.proofs.Judging.{IsNew, next_is_new}

abbrev pub AllMarksStand : StreamWorld → Type 0
AllMarksStand w = (s : SequenceId) → MarksStand w s

mark_stays : (v w : StreamWorld) (s : SequenceId) (n : ℕ) → Grows v w → n ≤ v.offered s → IsMark v s n → IsMark w s n
mark_stays v w s n g offered (inl none) = inl none
mark_stays v w s n g offered (inr is) = inr (g.kept (record { sequence = s; number = n }) offered ∙ is)

-- Marks that are the same stand.
stand_still : (v w : StreamWorld) (s : SequenceId) → Grows v w → MarksStand v s
    → w.acknowledged s ≡ v.acknowledged s → last w.decided s ≡ last v.decided s → w.offered s ≡ v.offered s → MarksStand w s
stand_still v w s g m acknowledged decided offered = record {
  acknowledged = rw acknowledged (mark_stays v w s (v.acknowledged s) g (le_trans m.acknowledged_was_decided m.decided_was_offered) m.acknowledged);
  decided = rw decided (mark_stays v w s (last v.decided s) g m.decided_was_offered m.decided);
  offered = rw offered (mark_stays v w s (v.offered s) g (omega arith) m.offered);
  acknowledged_was_decided = rw (acknowledged, decided) m.acknowledged_was_decided;
  decided_was_offered = rw (decided, offered) m.decided_was_offered;
}

after_offer : (w : StreamWorld) (p : Position) (s : SequenceId) → MarksStand w s → kept w p ≡ true → w.offered p.sequence < p.number
    → MarksStand (happens w (Offer p)) s
after_offer w p s m is_kept above = record {
  acknowledged = m.acknowledged;
  decided = m.decided;
  offered = at (same_sequence p.sequence s) refl;
  acknowledged_was_decided = m.acknowledged_was_decided;
  decided_was_offered = le_trans m.decided_was_offered (higher (same_sequence p.sequence s) refl);
}
  where
    at : (b : Bool) → same_sequence p.sequence s ≡ b → IsMark w s (cond b p.number (w.offered s))
    at true same = inr (subst (λ t. kept w (record { sequence = t; number = p.number }) ≡ true) (same_sequence_is p.sequence s same) is_kept)
    at false other = m.offered

    higher : (b : Bool) → same_sequence p.sequence s ≡ b → w.offered s ≤ cond b p.number (w.offered s)
    higher true same = subst (λ t. w.offered t ≤ p.number) (same_sequence_is p.sequence s same) (omega arith)
    higher false other = omega arith

-- the last decided number stays, or it is that of a packet that is truthful and new
after_decision : (w : StreamWorld) (t : Transfer) (outcome : Outcome) (s : SequenceId) → MarksStand w s → IsTruthful w t → (v : Verdict)
    → (v ≡ Next → IsNew w.decided t.head)
    → IsMark w s (last (decided_after v (decision t outcome) w.decided) s)
    × (w.acknowledged s ≤ last (decided_after v (decision t outcome) w.decided) s)
    × (last (decided_after v (decision t outcome) w.decided) s ≤ w.offered s)
after_decision w t outcome s m true_of Next new = at (same_sequence t.head.sequence s) refl
  where
    at : (b : Bool) → same_sequence t.head.sequence s ≡ b
        → IsMark w s (cond b t.head.number (last w.decided s))
        × (w.acknowledged s ≤ cond b t.head.number (last w.decided s))
        × (cond b t.head.number (last w.decided s) ≤ w.offered s)
    at true same =
        let is : t.head.sequence ≡ s = same_sequence_is t.head.sequence s same in
        let above : last w.decided s < t.head.number = subst (λ r. last w.decided r < t.head.number) is (new refl).above in (
          inr (subst (λ r. kept w (record { sequence = r; number = t.head.number }) ≡ true) is true_of.kept),
          omega (arith, m.acknowledged_was_decided),
          subst (λ r. t.head.number ≤ w.offered r) is true_of.offered,
        )
    at false other = (m.decided, m.acknowledged_was_decided, m.decided_was_offered)
after_decision w t outcome s m true_of _ new = (m.decided, m.acknowledged_was_decided, m.decided_was_offered)

-- the acknowledged mark is set to a number that is kept and was decided
after_mark : (w : StreamWorld) (p : Position) (s : SequenceId) (n : ℕ) → MarksStand w s → kept w p ≡ true → p.number ≤ last w.decided p.sequence
    → ((p.sequence ≡ s) × (n ≡ p.number)) ⊎ (n ≡ w.acknowledged s) → IsMark w s n × (n ≤ last w.decided s)
after_mark w p s n m is_kept decided (inl set) = (
  rw set.1 (inr (subst (λ t. kept w (record { sequence = t; number = p.number }) ≡ true) set.0 is_kept)),
  rw set.1 (subst (λ t. p.number ≤ last w.decided t) set.0 decided),
)
after_mark w p s n m is_kept decided (inr same) = (rw same m.acknowledged, rw same m.acknowledged_was_decided)

-- what a mark may be afterwards
marked_tells : (p : Position) (marks : SequenceId → ℕ) (s : SequenceId)
    → ((p.sequence ≡ s) × (marked p marks s ≡ p.number)) ⊎ (marked p marks s ≡ marks s)
marked_tells p marks s = at (same_sequence p.sequence s) refl
  where
    at : (b : Bool) → same_sequence p.sequence s ≡ b
        → ((p.sequence ≡ s) × (cond b p.number (marks s) ≡ p.number)) ⊎ (cond b p.number (marks s) ≡ marks s)
    at true same = inl (same_sequence_is p.sequence s same, refl)
    at false other = inr refl

raised_tells : (p : Position) (marks : SequenceId → ℕ) (s : SequenceId)
    → ((p.sequence ≡ s) × (raised p marks s ≡ p.number)) ⊎ (raised p marks s ≡ marks s)
raised_tells p marks s = at (same_sequence p.sequence s) refl (cases_lt (marks s) p.number)
  where
    at : (b : Bool) → same_sequence p.sequence s ≡ b → (marks s < p.number) ⊎ (p.number ≤ marks s)
        → ((p.sequence ≡ s) × (cond b (max (marks s) p.number) (marks s) ≡ p.number)) ⊎ (cond b (max (marks s) p.number) (marks s) ≡ marks s)
    at true same (inl above) = inl (same_sequence_is p.sequence s same, omega arith)
    at true same (inr within) = inr (omega arith)
    at false other _ = inr refl

pub marks_stand : (w : StreamWorld) (x : StreamStep) → AllMarksStand w → DecisionsRise w.decided
    → ((t : Transfer) → In t w.transfers → IsTruthful w t)
    → ((a : OrderAck) → In a w.order_acks → IsAcknowledgement w a)
    → ((a : FinalAck) → In a w.final_acks → (kept w a.position ≡ true) × (a.position.number ≤ last w.decided a.position.sequence))
    → May w x → Grows w (happens w x) → AllMarksStand (happens w x)
marks_stand w (Offer p) marks rise truthful acks finals may g = λ s. after_offer w p s (marks s) may.0 may.1
marks_stand w (Arrive p outcome) marks rise truthful acks finals may g = λ s.
    let told = after_decision w p outcome s (marks s) (truthful p may.1) (verdict w p) (next_is_new w.channel w.decided p.head rise) in
    record {
      acknowledged = (marks s).acknowledged;
      decided = told.0;
      offered = (marks s).offered;
      acknowledged_was_decided = told.1;
      decided_was_offered = told.2;
    }
marks_stand w (Acknowledged a) marks rise truthful acks finals may g = λ s.
    let is = acks a may.1 in
    let tells = marked_tells a.position w.acknowledged s in
    let told = after_mark w a.position s (marked a.position w.acknowledged s) (marks s) is.kept is.decided tells in
    record {
      acknowledged = told.0;
      decided = (marks s).decided;
      offered = (marks s).offered;
      acknowledged_was_decided = told.1;
      decided_was_offered = (marks s).decided_was_offered;
    }
marks_stand w (Told a) marks rise truthful acks finals may g = λ s.
    let is = finals a may.1 in
    let tells = raised_tells a.position w.acknowledged s in
    let told = after_mark w a.position s (raised a.position w.acknowledged s) (marks s) is.0 is.1 tells in
    record {
      acknowledged = told.0;
      decided = (marks s).decided;
      offered = (marks s).offered;
      acknowledged_was_decided = told.1;
      decided_was_offered = (marks s).decided_was_offered;
    }
marks_stand w x marks rise truthful acks finals may g = λ s. stand_still w (happens w x) s g (marks s) refl refl refl
