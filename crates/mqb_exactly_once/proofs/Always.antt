-- What holds at each point of each run, and that it makes a channel exactly once.
use Rattle.std.proofs.Common.{◌≡◌, ◌<◌, ◌≤◌, ◌⊎◌, inl, inr, true, false, not, List, [], ◌∷◌, ◌++◌, refl, sym, subst, ◌∙◌, le_trans, lt_of_lt_of_le, arith, Bool, ap, ◌↔◌}
use Rattle.std.proofs.lemmas.Bool.{and_from, cases_Bool, cases_lt, true≢false}
use Rattle.mqb_base.specs.Sequences.{earlier}
use Rattle.mqb_orders.specs.declared.judging.Verdict.TheVariants.{Duplicate, Stale}
use Rattle.mqb_exactly_once.specs.World.{Channel, Position, StreamWorld, start, Transfer}
use Rattle.mqb_exactly_once.specs.Words.{precedes, is_expired, is_decided, kept, last, is_committed, position_of, In}
use Rattle.mqb_exactly_once.specs.Steps.{StreamStep, happens, May, verdict}
use Rattle.mqb_exactly_once.specs.Runs.{after, IsRun}
use Rattle.mqb_exactly_once.specs.ExactlyOnce.{ExactlyOnce, IsNumbered, Differ}
use Rattle.mqb_exactly_once.specs.Growth.{Grows}
use Rattle.mqb_exactly_once.proofs.Positions.{precedes_tells}
use Rattle.mqb_exactly_once.proofs.Members.{In_from_decided, kept_is_not_expired, decided_from_In}
use Rattle.mqb_exactly_once.proofs.Numbers.{kept_within}
use Rattle.mqb_exactly_once.proofs.Decisions.{DecisionsRise, decided_within}
use Rattle.mqb_exactly_once.proofs.Judging.{duplicate_within, stale_precedes}
use Rattle.mqb_exactly_once.proofs.Growing.{grows, grows_none, grows_trans}
use Rattle.mqb_exactly_once.proofs.Committing.{CommitsRise, numbered_stays, commits_rise}
use Rattle.mqb_exactly_once.proofs.Transferring.{TransfersTruthful, transfers_truthful}
use Rattle.mqb_exactly_once.proofs.Deciding.{DecisionsSettled, decisions_rise, decisions_settled, same_but_reach}
use Rattle.mqb_exactly_once.proofs.Marking.{AllMarksStand, marks_stand}
use Rattle.mqb_exactly_once.proofs.Skipping.{NoneSkipped, none_skipped}
use Rattle.mqb_exactly_once.proofs.Telling.{OrderAcksTrue, FatesTrue, FinalAcksTrue, order_acks_true, fates_true, final_acks_true, told_was_decided}
use Rattle.mqb_exactly_once.proofs.Expiring.{ExpiriesDue, expiries_due, expiries_differ}
use Rattle.mqb_exactly_once.proofs.Beginning.{BegunInOrder, begun_in_order}

-- what each step keeps
pub record StreamInvariant (w : StreamWorld) : Type 0 where
  pub numbered : IsNumbered w.committed
  pub commits : CommitsRise w.committed
  pub rise : DecisionsRise w.decided
  pub marks : AllMarksStand w
  pub truthful : TransfersTruthful w
  pub settled : DecisionsSettled w
  pub skipped : NoneSkipped w
  pub order_acks : OrderAcksTrue w
  pub fates : FatesTrue w
  pub final_acks : FinalAcksTrue w
  pub expiries : ExpiriesDue w
  pub differ : Differ w.expired
  pub begun : BegunInOrder w

at_start : (channel : Channel) → StreamInvariant (start channel)
at_start channel = record {
  numbered = tt;
  commits = tt;
  rise = tt;
  marks = λ s. record {
    acknowledged = inl refl;
    decided = inl refl;
    offered = inl refl;
    acknowledged_was_decided = omega arith;
    decided_was_offered = omega arith;
  };
  truthful = λ t inside. absurd inside;
  settled = λ d inside. absurd inside;
  skipped = λ p is_kept within. absurd (true≢false (sym is_kept));
  order_acks = λ a inside. absurd inside;
  fates = λ f inside. absurd inside;
  final_acks = λ a inside. absurd inside;
  expiries = λ e inside. absurd inside;
  differ = tt;
  begun = λ s offered. absurd (omega arith);
}

pub step_grows : (w : StreamWorld) (x : StreamStep) → StreamInvariant w → May w x → Grows w (happens w x)
step_grows w x i may = grows w x i.numbered (λ s. (i.marks s).offered) i.rise may

stays : (w : StreamWorld) (x : StreamStep) → StreamInvariant w → May w x → Grows w (happens w x) → StreamInvariant (happens w x)
stays w x i may g = record {
  numbered = numbered_stays w x i.numbered;
  commits = commits_rise w x i.numbered i.commits may;
  rise = decisions_rise w x i.rise;
  marks = marks_stand w x i.marks i.rise i.truthful i.order_acks (told_was_decided w i.rise i.settled i.fates i.final_acks) may g;
  truthful = transfers_truthful w x i.truthful may g;
  settled = decisions_settled w x i.truthful i.settled may g;
  skipped = none_skipped w x i.skipped i.marks i.rise i.truthful may g;
  order_acks = order_acks_true w x i.order_acks i.marks i.rise i.settled may g;
  fates = fates_true w x i.fates may g;
  final_acks = final_acks_true w x i.final_acks may g;
  expiries = expiries_due w x i.expiries may g;
  differ = expiries_differ w x i.differ may;
  begun = begun_in_order w x i.begun (λ s. (i.marks s).offered) may g;
}

pub always : (channel : Channel) (xs : List StreamStep) → IsRun channel xs → StreamInvariant (after channel xs)
always channel [] run = at_start channel
always channel (x ∷ xs) run =
    let i : StreamInvariant (after channel xs) = always channel xs run.1 in
    stays (after channel xs) x i run.0 (step_grows (after channel xs) x i run.0)

pub run_grows : (channel : Channel) (more xs : List StreamStep) → IsRun channel (more ++ xs) → Grows (after channel xs) (after channel (more ++ xs))
run_grows channel [] xs run = grows_none (after channel xs)
run_grows channel (x ∷ more) xs run =
    grows_trans (after channel xs) (after channel (more ++ xs)) (after channel ((x ∷ more) ++ xs)) (run_grows channel more xs run.1)
    (step_grows (after channel (more ++ xs)) x (always channel (more ++ xs) run.1) run.0)

-- ---- exactly once

module _ (w : StreamWorld) (i : StreamInvariant w) where
  pub decided_kept : (p : Position) → is_decided w.decided p ≡ true → (kept w p ≡ true) × (p.number ≤ w.offered p.sequence)
  decided_kept p h =
      let found = In_from_decided w.decided p h in
      let settled = i.settled found.0 found.1 in
      subst (λ (q : Position). (kept w q ≡ true) × (q.number ≤ w.offered q.sequence)) found.2 (settled.2.kept, settled.2.offered)

  pub decided_up_to_last : (p : Position) → (is_decided w.decided p ≡ true) ↔ ((kept w p ≡ true) × (p.number ≤ last w.decided p.sequence))
  decided_up_to_last p = (λ h. ((decided_kept p h).0, decided_within w.decided p i.rise h), λ h. i.skipped p h.0 h.1)

  acknowledged_is_decided : (p : Position) → kept w p ≡ true → p.number ≤ w.acknowledged p.sequence → is_decided w.decided p ≡ true
  acknowledged_is_decided p is_kept within = i.skipped p is_kept (le_trans within (i.marks p.sequence).acknowledged_was_decided)

  none_is_skipped : (p q : Position) → kept w p ≡ true → is_decided w.decided q ≡ true → precedes p q ≡ true → is_decided w.decided p ≡ true
  none_is_skipped p q is_kept decided order = at (precedes_tells p q order)
    where
      begun : 0 < w.offered q.sequence
      begun = let k = decided_kept q decided in lt_of_lt_of_le (kept_within w.committed w.expired q i.numbered k.0).0 k.1

      at : (earlier p.sequence q.sequence ≡ true) ⊎ ((p.sequence ≡ q.sequence) × (p.number < q.number)) → is_decided w.decided p ≡ true
      at (inl is_earlier) = acknowledged_is_decided p is_kept (i.begun q.sequence begun p is_earlier is_kept)
      at (inr h) = i.skipped p is_kept (subst (λ s. p.number ≤ last w.decided s) (sym h.0)
          (let within : q.number ≤ last w.decided q.sequence = decided_within w.decided q i.rise decided in omega (arith, h.1)))

  undecided : (p : Position) → is_expired w.expired p ≡ true → is_decided w.decided p ≡ false
  undecided p expired = elim (cases_Bool (is_decided w.decided p)) [
    | inl decided ↦ absurd (true≢false (sym expired ∙ kept_is_not_expired w.committed w.expired p (decided_kept p decided).0))
    | inr is ↦ is
  ]

  waits : (p : Position) → kept w p ≡ true → is_decided w.decided p ≡ false → w.acknowledged p.sequence < p.number
  waits p is_kept not_decided = elim (cases_lt (w.acknowledged p.sequence) p.number) [
    | inl above ↦ above
    | inr within ↦ absurd (true≢false (sym (acknowledged_is_decided p is_kept within) ∙ not_decided))
  ]

  -- what was committed is kept or expired
  none_is_skipped_or_expired : (p q : Position) → is_committed w.committed p ≡ true → is_decided w.decided q ≡ true → precedes p q ≡ true
      → (is_decided w.decided p ≡ true) ⊎ (is_expired w.expired p ≡ true)
  none_is_skipped_or_expired p q committed decided order = at (is_expired w.expired p) refl
    where
      at : (b : Bool) → is_expired w.expired p ≡ b → (is_decided w.decided p ≡ true) ⊎ (is_expired w.expired p ≡ true)
      at true expired = inr expired
      at false lasts =
          let is_kept = and_from (is_committed w.committed p) (not (is_expired w.expired p)) committed (ap not lasts) in
          inl (none_is_skipped p q is_kept decided order)

  pub dropped_is_decided : (t : Transfer) → In t w.transfers → (verdict w t ≡ Duplicate) ⊎ (verdict w t ≡ Stale)
      → is_decided w.decided (position_of t.head) ≡ true
  dropped_is_decided t inside (inl duplicate) =
      let is_kept = (i.truthful t inside).kept in
      i.skipped (position_of t.head) is_kept
      (duplicate_within w.channel w.decided t.head (kept_within w.committed w.expired (position_of t.head) i.numbered is_kept).0 duplicate)
  dropped_is_decided t inside (inr stale) =
      let d = stale_precedes w.channel w.decided t.head stale in
      none_is_skipped (position_of t.head) d.0.position (i.truthful t inside).kept (decided_from_In d.0 w.decided d.1) d.2

  pub is_exactly_once : ExactlyOnce w
  is_exactly_once = record {
    numbered = i.numbered;
    committed_in_order = i.commits;
    decided_in_order = i.rise;
    decided_committed = λ d inside.
        let s = i.settled d inside in
        (s.0, s.2.committed, s.2.position, same_but_reach s.0.message d.message s.1.sent_at s.2.message);
    none_skipped = none_is_skipped_or_expired;
    expired_due = i.expiries;
    expired_undecided = undecided;
    expired_once = i.differ;
    late_was_due = λ d inside.
        let s = i.settled d inside in
        (s.0, s.1, s.2.committed, s.2.position, s.2.sent, s.2.head, s.2.heard, s.2.late);
    waiting = waits;
    begun_in_order = i.begun;
  }
