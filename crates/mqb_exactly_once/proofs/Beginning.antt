-- Of no sequence a message is offered before each kept one of the earlier sequences is acknowledged.
use Rattle.std.proofs.Common.{◌≡◌, ◌<◌, inl, inr, Bool, true, false, not, ◌&&◌, ◌||◌, cond, refl, sym, ap, subst, ◌∙◌, le_trans, arith}
use Rattle.std.proofs.lemmas.Bool.{and_parts, true≢false}
use Rattle.mqb_base.specs.declared.ids.SequenceId.{SequenceId}
use Rattle.mqb_base.specs.Sequences.{same_sequence, earlier}
use Rattle.mqb_exactly_once.specs.World.{Position, Commitment, StreamWorld}
use Rattle.mqb_exactly_once.specs.Words.{In, same_position, is_committed, is_expired, kept}
use Rattle.mqb_exactly_once.specs.Steps.{StreamStep, Commit, Expire, Offer, commitment, happens, May, EarlierAcknowledged}
use Rattle.mqb_exactly_once.specs.Growth.{Grows}
use Rattle.mqb_exactly_once.specs.Truths.{IsMark}
use Rattle.mqb_exactly_once.proofs.Positions.{same_sequence_is, same_position_is}
use Rattle.mqb_exactly_once.proofs.Members.{In_from_committed, kept_is_committed}

abbrev pub BegunInOrder : StreamWorld → Type 0
BegunInOrder w = (s : SequenceId) → 0 < w.offered s → EarlierAcknowledged w s

-- a number was offered, so a message of that sequence was committed, and none of an earlier one is any more
no_earlier_commit : (w : StreamWorld) (s t : SequenceId) → IsMark w t (w.offered t) → 0 < w.offered t
    → ((c : Commitment) → In c w.committed → earlier s c.position.sequence ≡ false) → earlier s t ≡ false
no_earlier_commit w s t (inl none) begun none_later = absurd (omega arith)
no_earlier_commit w s t (inr is) begun none_later =
    let found = In_from_committed w.committed (record { sequence = t; number = w.offered t }) (kept_is_committed w.committed w.expired _ is) in
    subst (λ (p : Position). earlier s p.sequence ≡ false) found.2 (none_later found.0 found.1)

pub begun_in_order : (w : StreamWorld) (x : StreamStep) → BegunInOrder w → ((s : SequenceId) → IsMark w s (w.offered s)) → May w x
    → Grows w (happens w x) → BegunInOrder (happens w x)
begun_in_order w (Commit s m) begun marks may g = λ t offered p before is_kept.
    begun t offered p before (kept_before t p before offered (same_position (commitment w s m).position p) refl is_kept)
  where
    kept_before : (t : SequenceId) (p : Position) → earlier p.sequence t ≡ true → 0 < w.offered t → (b : Bool)
        → same_position (commitment w s m).position p ≡ b
        → ((b || is_committed w.committed p) && not (is_expired w.expired p)) ≡ true → kept w p ≡ true
    kept_before t p before offered true same is_kept =
        let is : s ≡ p.sequence = ap (λ q. q.sequence) (same_position_is (commitment w s m).position p same) in
        absurd (true≢false (sym (subst (λ r. earlier r t ≡ true) (sym is) before) ∙ no_earlier_commit w s t (marks t) offered may))
    kept_before t p before offered false other is_kept = is_kept
begun_in_order w (Expire c moment) begun marks may g = λ t offered p before is_kept.
    begun t offered p before (kept_before p (same_position c.position p) is_kept)
  where
    kept_before : (p : Position) (b : Bool) → (is_committed w.committed p && not (b || is_expired w.expired p)) ≡ true → kept w p ≡ true
    kept_before p true is_kept = absurd (true≢false (sym (and_parts (is_committed w.committed p) false is_kept).1))
    kept_before p false is_kept = is_kept
begun_in_order w (Offer q) begun marks may g = λ t offered p before is_kept. at t (same_sequence q.sequence t) refl offered p before is_kept
  where
    at : (t : SequenceId) (b : Bool) → same_sequence q.sequence t ≡ b → 0 < cond b q.number (w.offered t) → EarlierAcknowledged w t
    at t true same offered = subst (λ r. EarlierAcknowledged w r) (same_sequence_is q.sequence t same) may.2
    at t false other offered = begun t offered
begun_in_order w x begun marks may g = λ t offered p before is_kept. le_trans (begun t offered p before is_kept) (g.acknowledged p.sequence)
