-- Round after round, until nothing waits.
use Rattle.std.proofs.Common.{◌≡◌, ℕ, zero, suc, ◌*◌, ◌≤◌, ◌⊎◌, inl, inr, true, false, ◌&&◌, ◌++◌, nat_lt, List, [], ◌∷◌, refl, sym, subst, ◌∙◌, le_trans, arith}
use Rattle.std.specs.Prelude.{All, length}
use Rattle.std.proofs.lemmas.Bool.{and_from, cases_lt, lt-ltb, true≢false}
use Rattle.std.proofs.lemmas.List.{append_assoc, length-append}
use Rattle.std.proofs.lemmas.List.Elements.{All-append, All-nil}
use Rattle.mqb_exactly_once.specs.Outcomes.{Outcome}
use Rattle.mqb_exactly_once.specs.Runs.{IsRun, after}
use Rattle.mqb_exactly_once.specs.Steps.{Connect, End, StreamStep}
use Rattle.mqb_exactly_once.specs.Words.{In, kept}
use Rattle.mqb_exactly_once.specs.World.{Channel, Commitment, Position, StreamWorld, Transfer}
use Rattle.mqb_exactly_once.proofs.Always.{StreamInvariant, always}
use Rattle.mqb_exactly_once.proofs.Members.{In_from_committed, kept_is_committed}
use Rattle.mqb_law_recovery.specs.Recovery.{IsDrained, IsGood, IsJudge, Recovers, waiting, waits}
use Rattle.mqb_law_recovery.proofs.Bringing.{Brought, brought}
use Rattle.mqb_law_recovery.proofs.Oldest.{First, first_of}

-- where none waits
drained : (w : StreamWorld) → StreamInvariant w → ((c : Commitment) → In c w.committed → waits w c ≡ false) → IsDrained w
drained w i none = record { decided = λ p is_kept. i.skipped p is_kept (le_trans (told p is_kept) (i.marks p.sequence).acknowledged_was_decided); acknowledged = told }
  where
    told : (p : Position) → kept w p ≡ true → p.number ≤ w.acknowledged p.sequence
    told p is_kept = elim (cases_lt (w.acknowledged p.sequence) p.number) [
      | inl over ↦ absurd (true≢false (sym (and_from (kept w p) (nat_lt (w.acknowledged p.sequence) p.number) is_kept
          (lt-ltb (w.acknowledged p.sequence) p.number over)) ∙ not_waiting))
      | inr within ↦ within
    ]
      where
        found : (d : Commitment) × In d w.committed × (d.position ≡ p)
        found = In_from_committed w.committed p (kept_is_committed w.committed w.expired p is_kept)

        not_waiting : (kept w p && nat_lt (w.acknowledged p.sequence) p.number) ≡ false
        not_waiting = subst (λ (q : Position). (kept w q && nat_lt (w.acknowledged q.sequence) q.number) ≡ false) found.2 (none found.0 found.1)

-- steps that bring over so many messages at most
record Drains (channel : Channel) (ys : List StreamStep) (now : ℕ) (judge : Transfer → Outcome) (count : ℕ) : Type 0 where
  steps : List StreamStep
  good : All (IsGood now judge) steps
  run : IsRun channel (steps ++ ys)
  bound : length steps ≤ 5 * count
  committed : (after channel (steps ++ ys)).committed ≡ (after channel ys).committed
  expired : (after channel (steps ++ ys)).expired ≡ (after channel ys).expired
  done : IsDrained (after channel (steps ++ ys))

module _ (channel : Channel) (now : ℕ) (judge : Transfer → Outcome) (judged : IsJudge judge) where
  nothing : (ys : List StreamStep) (count : ℕ) → IsRun channel ys
      → ((c : Commitment) → In c (after channel ys).committed → waits (after channel ys) c ≡ false) → Drains channel ys now judge count
  nothing ys count run none = record {
    steps = [];
    good = All-nil (IsGood now judge);
    run = run;
    bound = omega arith;
    committed = refl;
    expired = refl;
    done = drained (after channel ys) (always channel ys run) none;
  }

  -- one round, and then the others
  joined : (ys : List StreamStep) (count : ℕ) (b : Brought channel ys now judge) → Drains channel (b.steps ++ ys) now judge count
      → Drains channel ys now judge (suc count)
  joined ys count b rest =
      let same : (rest.steps ++ b.steps) ++ ys ≡ rest.steps ++ (b.steps ++ ys) = append_assoc rest.steps b.steps ys in
      let long = length-append rest.steps b.steps in
      let few = b.few in
      let bound = rest.bound in
      record {
        steps = rest.steps ++ b.steps;
        good = All-append (IsGood now judge) rest.steps b.steps rest.good b.good;
        run = subst (λ (l : List StreamStep). IsRun channel l) (sym same) rest.run;
        bound = omega (arith, long, few, bound);
        committed = subst (λ (l : List StreamStep). (after channel l).committed ≡ (after channel ys).committed) (sym same) (rest.committed ∙ b.committed);
        expired = subst (λ (l : List StreamStep). (after channel l).expired ≡ (after channel ys).expired) (sym same) (rest.expired ∙ b.expired);
        done = subst (λ (l : List StreamStep). IsDrained (after channel l)) (sym same) rest.done;
      }

  drain : (count : ℕ) (ys : List StreamStep) → IsRun channel ys → (after channel ys).connected ≡ true → waiting (after channel ys) ≤ count
      → Drains channel ys now judge count
  drain zero ys run connected within = at (first_of (waits (after channel ys)) (after channel ys).committed (always channel ys run).commits)
    where
      at : First (waits (after channel ys)) (after channel ys).committed
          ⊎ ((c : Commitment) → In c (after channel ys).committed → waits (after channel ys) c ≡ false) → Drains channel ys now judge zero
      at (inr none) = nothing ys zero run none
      at (inl f) =
          let less = (brought channel ys now judge judged run connected (always channel ys run) f).fewer in
          absurd (omega (arith, less, within))
  drain (suc count) ys run connected within =
      at (first_of (waits (after channel ys)) (after channel ys).committed (always channel ys run).commits) (drain count)
    where
      at : First (waits (after channel ys)) (after channel ys).committed
          ⊎ ((c : Commitment) → In c (after channel ys).committed → waits (after channel ys) c ≡ false)
          → ((zs : List StreamStep) → IsRun channel zs → (after channel zs).connected ≡ true → waiting (after channel zs) ≤ count
          → Drains channel zs now judge count)
          → Drains channel ys now judge (suc count)
      at (inr none) rest = nothing ys (suc count) run none
      at (inl f) rest =
          let b = brought channel ys now judge judged run connected (always channel ys run) f in
          let less = b.fewer in
          joined ys count b (rest (b.steps ++ ys) b.run b.connected (omega (arith, less, within)))

pub recovers : (channel : Channel) (xs : List StreamStep) (now : ℕ) (judge : Transfer → Outcome) → IsRun channel xs → IsJudge judge
    → Recovers channel xs now judge
recovers channel xs now judge run judged =
    let d = drain channel now judge judged (waiting (after channel xs)) (Connect ∷ End ∷ xs) (refl, (tt, run)) refl (omega arith) in
    record {
      steps = d.steps;
      good = d.good;
      run = d.run;
      bound = d.bound;
      committed = d.committed;
      expired = d.expired;
      drained = d.done;
    }
