-- A call that is told is a call.
use Rattle.std.proofs.Common.{refl, sym, ap, subst, inl, inr, ◌∙◌}
use Rattle.std.specs.Result.{IsErrAnd, IsOkAnd}
use Rattle.std.specs.Prelude.{◌≡◌, Err, IfOk, IfSome, List, None, Ok, OnErr, Result, ℕ}
use Rattle.mqb_answers.specs.Calls.{IsPrinted, IsTold, Tells}
use Rattle.mqb_answers.specs.Outcomes.{told_by}
use Rattle.mqb_answers.specs.declared.told.CallEnd.{CallEnd}
use Rattle.mqb_answers.specs.declared.told.CallEnd.TheVariants.{Done}
use Rattle.mqb_answers.specs.declared.told.Told.{Told}
use Rattle.mqb_answers.specs.Texts.{hosts_of}
use Rattle.mqb_base.specs.declared.ids.Identity.{Identity}
use Rattle.mqb_outside.specs.Disk.{Counted, View}
use Rattle.mqb_replies.specs.mqb_manager.Calls.{Ends, IsCall}
use Rattle.mqb_replies.specs.mqb_manager.States.{ManagerState}
use Rattle.mqb_model.specs.managers.Outcomes.{Outcome}
use Rattle.mqb_replies.specs.declared.faults.AnswerFault.{AnswerFault}
use Rattle.mqb_replies.specs.declared.faults.AnswerFault.TheVariants as fault

-- What is told of an answer tells a fault of the machine from a reply.
pub record IsTelling {V E : Type 0} (memory broken : E) (f : Result V E → Result Told AnswerFault) (a : Result V E) : Type 0 where
  pub wanting : f (Err memory) ≡ Err fault.Memory
  pub breaking : f (Err broken) ≡ Err fault.DiskFault
  pub wants : f a ≡ Err fault.Memory → a ≡ Err memory
  pub breaks : f a ≡ Err fault.DiskFault → a ≡ Err broken

module _ {V E : Type 0} (memory broken : E) (f : Result V E → Result Told AnswerFault) (d e : View) (m n : ManagerState) (o : Outcome (Result V E)) (a : Result V E)
    (telling : IsTelling memory broken f a) where
  ends_told : Ends memory broken m n o a → Ends fault.Memory fault.DiskFault m n (told_by f o) (f a)
  ends_told (inl went) = inl (
    ap f went.0,
    record { manager = went.1.manager; lines = went.1.lines; count = went.1.count; guid = went.1.guid },
  )
  ends_told (inr (inl wants)) = inr (inl (ap f wants.0 ∙ telling.wanting, wants.1))
  ends_told (inr (inr breaks)) = inr (inr (
    ap f breaks.0 ∙ telling.breaking,
    record {
      entry = breaks.1.entry;
      manager = breaks.1.manager;
      lines = breaks.1.lines;
      count = breaks.1.count;
      guid = breaks.1.guid;
    },
  ))

  call_told : IsCall memory broken d e m n o a → IsCall fault.Memory fault.DiskFault d e m n (told_by f o) (f a)
  call_told call = record {
    ends = ends_told call.ends;
    on = call.on;
    settled = call.settled;
    wrote = call.wrote;
    moments = call.moments;
    doubt = call.doubt;
    rose = λ same. call.rose (telling.breaks same);
    stayed = λ not. call.stayed (λ same. not (ap f same ∙ telling.breaking));
    switch = call.switch;
  }

  -- where it is done, what is told says so
  done_by : (hosts : List Identity) (before after : List ℕ) (r : Result CallEnd AnswerFault) (told : Result Told AnswerFault) (P : Type 0)
      → f a ≡ told → Tells hosts told before after r → r ≡ Ok Done → ((t : Told) → f a ≡ Ok t → t.end ≡ Done → P) → P
  done_by hosts before after r (Ok t) P is (inl whole) done h = let inside : t.end ≡ Done = cc in h t is inside
  done_by hosts before after r (Ok t) P is (inr none) done h = let none : ⊥ = cc in absurd none
  done_by hosts before after r (Err why) P is refused done h = let none : ⊥ = cc in absurd none

  -- The call is told.
  pub is_told : (kept : Type 0) (before after : List ℕ) (told : Result Told AnswerFault) (r : Result CallEnd AnswerFault)
      → IsCall memory broken d e m n o a → (o.entry ≡ None → kept) → (a ≡ Err memory → kept)
      → ((t : Told) → f a ≡ Ok t → t.end ≡ Done → IfSome o.entry (λ _. Counted 4 d.calls e.calls))
      → told ≡ f a → Tells (hosts_of n.store.state) told before after r → IsTold d e kept m n (told_by f o) before after r
  is_told kept before after told r call untouched wants calls is tells = let whole : Tells (hosts_of n.store.state) (f a) before after r = subst (λ (t : Result Told AnswerFault). Tells (hosts_of n.store.state) t before after r) is tells in record {
    answer = f a;
    call = call_told call;
    told = whole;
    untouched = untouched;
    memory = λ same. wants (telling.wants same);
    calls = λ done. done_by (hosts_of n.store.state) before after r (f a) (IfSome o.entry (λ _. Counted 4 d.calls e.calls)) refl whole done calls;
  }

-- What a call of a helper wanted is answered.
pub wanted : {V E : Type 0} (r : Result V E) (why : E) → IsErrAnd r (λ e. e ≡ why) → r ≡ Err why
wanted {V} {E} (Ok value) why h = absurd h
wanted {V} {E} (Err e) why h = ap (λ (e : E). Err e) h

-- Memory runs out behind an answer, whose text is not made.
pub unprinted : (hosts : List Identity) (text : List ℕ) (told : Result Told AnswerFault) → (told ≡ Err fault.DiskFault → ⊥) → Tells hosts told text text (Err fault.Memory)
unprinted hosts text (Ok t) whole = inr (refl, refl)
unprinted hosts text (Err fault.Memory) whole = (refl, refl)
unprinted hosts text (Err fault.DiskFault) whole = absurd (whole refl)

-- What is known of a call that was told.

abbrev AsDefined : Outcome (Result Told AnswerFault) → List Identity → (before after : List ℕ) → CallEnd → Type 0
AsDefined o hosts before after end = IsOkAnd o.answer (IsPrinted hosts before after end)

abbrev Answered : Outcome (Result Told AnswerFault) → List Identity → (before after : List ℕ) → Result CallEnd AnswerFault → Type 0
Answered o hosts before after r = IfOk r (AsDefined o hosts before after)

defined : (m n : ManagerState) (o : Outcome (Result Told AnswerFault)) (hosts : List Identity) (before after : List ℕ) (t : Told) (end : CallEnd)
    → Ends fault.Memory fault.DiskFault m n o (Ok t) → IsPrinted hosts before after end t → AsDefined o hosts before after end
defined m n o hosts before after t end (inl went) printed = subst (λ (a : Result Told AnswerFault). IsOkAnd a (IsPrinted hosts before after end)) went.0 printed
defined m n o hosts before after t end (inr (inl wants)) printed = let none : ⊥ = cc in absurd none
defined m n o hosts before after t end (inr (inr breaks)) printed = let none : ⊥ = cc in absurd none

answered_by : (m n : ManagerState) (o : Outcome (Result Told AnswerFault)) (hosts : List Identity) (before after : List ℕ) (r : Result CallEnd AnswerFault)
    (a : Result Told AnswerFault) → Ends fault.Memory fault.DiskFault m n o a → Tells hosts a before after r → Answered o hosts before after r
answered_by m n o hosts before after r (Ok t) ends (inl whole) =
    subst (Answered o hosts before after) (sym whole.0) (defined m n o hosts before after t t.end ends (refl, whole.1))
answered_by m n o hosts before after r (Ok t) ends (inr none) = subst (Answered o hosts before after) (sym none.0) tt
answered_by m n o hosts before after r (Err why) ends refused = subst (Answered o hosts before after) (sym refused.0) tt

unanswered_by : (hosts : List Identity) (before after : List ℕ) (r : Result CallEnd AnswerFault) (a : Result Told AnswerFault)
    → Tells hosts a before after r → OnErr r (after ≡ before)
unanswered_by hosts before after r (Ok t) (inl whole) = subst (λ (r : Result CallEnd AnswerFault). OnErr r (after ≡ before)) (sym whole.0) tt
unanswered_by hosts before after r (Ok t) (inr none) = subst (λ (r : Result CallEnd AnswerFault). OnErr r (after ≡ before)) (sym none.0) none.1
unanswered_by hosts before after r (Err why) refused = subst (λ (r : Result CallEnd AnswerFault). OnErr r (after ≡ before)) (sym refused.0) refused.1

module _ (d e : View) (kept : Type 0) (m n : ManagerState) (o : Outcome (Result Told AnswerFault)) (before after : List ℕ) (r : Result CallEnd AnswerFault)
    (told : IsTold d e kept m n o before after r) where
  -- it ends and is printed as the definition says
  pub is_answered : IfOk r (λ end. IsOkAnd o.answer (IsPrinted (hosts_of n.store.state) before after end))
  is_answered = answered_by m n o (hosts_of n.store.state) before after r told.answer told.call.ends told.told

  -- or nothing is printed
  pub is_unanswered : OnErr r (after ≡ before)
  is_unanswered = unanswered_by (hosts_of n.store.state) before after r told.answer told.told
