-- The call commit.
use Rattle.std.proofs.Common.{refl, sym, ap, subst, ◌∙◌}
use Rattle.std.specs.Prelude.{[], ◌+◌, ◌∷◌, ◌≡◌, ◌≤◌, All, Bool, Err, IfSome, IsSome, List, None, Ok, OnOk, Option, Result, Some, false, if◌then◌else◌, length, nat_lt, true, ◌==◌, ℕ}
use Rattle.std.specs.Result.{IsOkAnd}
use Rattle.mqb_base.specs.declared.draft.Op.{Op}
use Rattle.mqb_outside.specs.Disk.{Lawful, View}
use Rattle.mqb_entries.specs.SpelledEntries.{Fits, spelled}
use Rattle.mqb_entries.specs.declared.entry.Entry.TheVariants as form
use Rattle.mqb_fields.specs.Reading.{◌>>=◌}
use Rattle.mqb_model.specs.calls.Call as answer
use Rattle.mqb_model.specs.calls.Call.{Commit}
use Rattle.mqb_model.specs.calls.Commit.{Trial, at_op, commit, commit_tried, has_too_large, trial_of, try_op, try_ops, whole_refusal}
use Rattle.mqb_model.specs.declared.answers.Done.{Done}
use Rattle.mqb_model.specs.declared.faults.CommitFault.{CommitFault}
use Rattle.mqb_model.specs.declared.faults.CommitFault.TheVariants as fault
use Rattle.mqb_model.specs.declared.faults.OpFault.{OpFault}
use Rattle.mqb_model.specs.declared.limits.TheConstants.{MAX_NUMBER, MAX_OPS, MAX_RECORD}
use Rattle.mqb_model.specs.laws.Durable.{CallsLeaveStore}
use Rattle.mqb_model.specs.laws.Fitting.{IsDraftedOp, RecordsFit}
use Rattle.mqb_model.specs.laws.Keeping.{CallsKeepValid}
use Rattle.mqb_model.specs.managers.Beside.{Nothing}
use Rattle.mqb_model.specs.managers.Manager.{Manager, is_down}
use Rattle.mqb_model.specs.managers.Outcomes.{Outcome, answering, recording, unless}
use Rattle.mqb_model.specs.managers.Valid.{IsValidManager}
use Rattle.mqb_model.specs.records.Reading.{record_in}
use Rattle.mqb_model.specs.records.Record.{Record}
use Rattle.mqb_model.specs.records.Record as entry
use Rattle.mqb_model.specs.state.State.{State}
use Rattle.mqb_store.specs.Writing.{change_in}
use Rattle.mqb_store.specs.declared.faults.WriteFault.{WriteFault}
use Rattle.mqb_store.specs.declared.faults.WriteFault.TheVariants as write_fault
use Rattle.mqb_trying.specs.Trials.{Planned, planned}
use Rattle.mqb_trying.specs.Trying.{IsRefusedBy, count_refusal, tried}
use Rattle.mqb_trying.specs.Trying as trying
use Rattle.mqb_manager.specs.Calls.{IsCall}
use Rattle.mqb_manager.specs.States.{IsOnDisk, IsUp, ManagerState, manager_of}
use Rattle.mqb_manager.specs.Writing.{IsReady, answered, outcome_by}
use Rattle.mqb_manager.proofs.Calls.{by_request, ready_by, refused_call, unmade_call}
use Rattle.mqb_manager.proofs.Conditions.{up_from}

-- What it comes to where the manager is up.

-- a transaction that was tried is written
abbrev made : Manager → ℕ → Result Trial CommitFault → Outcome (Result (List Done) CommitFault)
made m now (Err why) = answering m (Err why)
made m now (Ok t) = recording m (entry.Commit now t.ops) (Ok t.done)

whole_made : (m : Manager) (now : ℕ) (t : Trial) (why : Option CommitFault)
    → unless m why (recording m (entry.Commit now t.ops) (Ok t.done)) ≡ made m now (trying.unless why (Ok t))
whole_made m now t None = refl
whole_made m now t (Some why) = refl

tried_made : (m : Manager) (now : ℕ) (why : Option CommitFault) (r : Result Trial CommitFault)
    → unless m why (commit_tried m now r) ≡ made m now (trying.unless why (r >>= λ t. trying.unless (whole_refusal t) (Ok t)))
tried_made m now (Some why) r = refl
tried_made m now None (Err why) = refl
tried_made m now None (Ok t) = whole_made m now t (whole_refusal t)

commit_made : (m : Manager) (ops : List Op) (now : ℕ) → is_down m ≡ false → commit m ops now ≡ made m now (tried m.state now ops)
commit_made m ops now up =
    ap (λ (why : Option CommitFault). unless m why (commit_tried m now (try_ops now 0 (trial_of m.state) ops)))
    (ap (λ (b : Bool). if b then Some fault.Down else count_refusal (length ops)) up)
    ∙ tried_made m now (count_refusal (length ops)) (try_ops now 0 (trial_of m.state) ops)

-- No transaction is refused since a disk failed.

ops_unbroken : (now index : ℕ) (t : Trial) (ops : List Op) → try_ops now index t ops ≡ Err fault.DiskFault → ⊥
ops_unbroken now index t [] e = let none : ⊥ = cc in none
ops_unbroken now index t (op ∷ ops) e = at (try_op t now op) e (λ next. ops_unbroken now (index + 1) next ops)
  where
    at : (r : Result Trial OpFault) → (at_op index r >>= λ next. try_ops now (index + 1) next ops) ≡ Err fault.DiskFault
        → ((next : Trial) → try_ops now (index + 1) next ops ≡ Err fault.DiskFault → ⊥) → ⊥
    at (Ok next) e more = more next e
    at (Err why) e more = let none : ⊥ = cc in none

count_unbroken : (a b : Bool) → (if a then Some fault.NoOps else if b then Some fault.TooManyOps else None) ≡ Some fault.DiskFault → ⊥
count_unbroken true b e = let none : ⊥ = cc in none
count_unbroken false true e = let none : ⊥ = cc in none
count_unbroken false false e = let none : ⊥ = cc in none

whole_unbroken : (t : Trial) (a b : Bool)
    → trying.unless (if a then Some fault.NumbersSpent else if b then Some fault.TooLarge else None) (Ok t) ≡ Err fault.DiskFault → ⊥
whole_unbroken t true b e = let none : ⊥ = cc in none
whole_unbroken t false true e = let none : ⊥ = cc in none
whole_unbroken t false false e = let none : ⊥ = cc in none

tried_unbroken : (s : State) (now : ℕ) (ops : List Op) → tried s now ops ≡ Err fault.DiskFault → ⊥
tried_unbroken s now ops = by (count_refusal (length ops)) (try_ops now 0 (trial_of s) ops)
    (count_unbroken (length ops == 0) (nat_lt MAX_OPS (length ops))) (ops_unbroken now 0 (trial_of s) ops)
  where
    by : (count : Option CommitFault) (r : Result Trial CommitFault) → (count ≡ Some fault.DiskFault → ⊥) → (r ≡ Err fault.DiskFault → ⊥)
        → trying.unless count (r >>= λ t. trying.unless (whole_refusal t) (Ok t)) ≡ Err fault.DiskFault → ⊥
    by (Some why) r counted made e = counted (let inside : why ≡ fault.DiskFault = cc in ap (λ (why : CommitFault). Some why) inside)
    by None (Err why) counted made e = made e
    by None (Ok t) counted made e = whole_unbroken t (nat_lt (MAX_NUMBER + 1) t.sending.next_number) (has_too_large t.ops) e

-- It is refused.

pub commit_refused : (d : View) (m : ManagerState) (ops : List Op) (now : ℕ) (why : CommitFault) → Lawful d → IsValidManager (manager_of m)
    → is_down (manager_of m) ≡ false → IsRefusedBy (tried m.store.state now ops) why
    → IsCall fault.Memory fault.DiskFault d d m m (commit (manager_of m) ops now) (Err why)
commit_refused d m ops now why law valid up refused = by why refused
  where
    same : (why : CommitFault) → (why ≡ fault.DiskFault → ⊥) → tried m.store.state now ops ≡ Err why
        → IsCall fault.Memory fault.DiskFault d d m m (commit (manager_of m) ops now) (Err why)
    same why differ e = let k = manager_of m in
        refused_call fault.Memory fault.DiskFault why d m (commit k ops now) law valid (commit_made k ops now up ∙ ap (made k now) e) differ

    by : (why : CommitFault) → IsRefusedBy (tried m.store.state now ops) why
        → IsCall fault.Memory fault.DiskFault d d m m (commit (manager_of m) ops now) (Err why)
    by fault.Memory r = unmade_call fault.Memory fault.DiskFault d m (commit (manager_of m) ops now) law (λ same. let none : ⊥ = cc in none)
    by fault.DiskFault r = absurd (tried_unbroken m.store.state now ops r)
    by why r = same why (λ same. let none : ⊥ = cc in none) r

-- It is written.

module _ (ops : List Op) (now : ℕ) (p : Planned) where
  -- the entry of the trial is the record of what was tried
  abbrev pub IsTrial : Result Trial CommitFault → Type 0
  IsTrial r = IsOkAnd r (λ t. p ≡ planned t) × IsOkAnd r (λ t. record_in (form.Commit now p.ops) ≡ Some (entry.Commit now t.ops))

  is_record : (r : Result Trial CommitFault) → IsTrial r → IsSome (record_in (form.Commit now p.ops))
  is_record (Err why) h = absurd h.0
  is_record (Ok t) h = subst (λ (o : Option Record). IsSome o) (sym h.1) refl

  made_is : (m : Manager) (r : Result Trial CommitFault) → IsTrial r
      → made m now r ≡ outcome_by {A = Result (List Done) CommitFault} m (change_in (Some (form.Commit now p.ops))) Nothing (Ok p.done)
  made_is m (Err why) h = absurd h.0
  made_is m (Ok t) h =
      ap (λ (done : List Done). outcome_by {A = Result (List Done) CommitFault} m (Some (entry.Commit now t.ops)) Nothing (Ok done)) (sym (ap (λ (p : Planned). p.done) h.0))
      ∙ ap (λ (r : Option Record). outcome_by {A = Result (List Done) CommitFault} m r Nothing (Ok p.done)) (sym h.1)

  -- what was tried of the contents was tried of the state
  pub trial_of_store : (s state : State) → s ≡ state → IsOkAnd (tried s now ops) (λ t. p ≡ planned t)
      → IsOkAnd (tried s now ops) (λ t. record_in (form.Commit now p.ops) ≡ Some (entry.Commit now t.ops)) → IsTrial (tried state now ops)
  trial_of_store s state same plan read = subst (λ (s : State). IsTrial (tried s now ops)) same (plan, read)

  -- the call comes to this
  pub commit_is : (m : Manager) (value : List Done) → value ≡ p.done → is_down m ≡ false → IsTrial (tried m.state now ops)
      → commit m ops now ≡ outcome_by m (change_in (Some (form.Commit now p.ops))) Nothing (Ok value)
  commit_is m value is up trial = commit_made m ops now up ∙ made_is m (tried m.state now ops) trial
      ∙ ap (λ (done : List Done). outcome_by {A = Result (List Done) CommitFault} m (change_in (Some (form.Commit now p.ops))) Nothing (Ok done)) (sym is)

  -- it can be written
  pub commit_ready : (d : View) (m : ManagerState) → RecordsFit → CallsKeepValid → CallsLeaveStore → IsValidManager (manager_of m)
      → (IsUp m → IsOnDisk d m) → is_down (manager_of m) ≡ false → All IsDraftedOp ops → IsTrial (tried m.store.state now ops)
      → Fits (form.Commit now p.ops) → length (spelled (form.Commit now p.ops)) ≤ MAX_RECORD → IsReady d m (Some (form.Commit now p.ops)) Nothing
  commit_ready d m fit keep leave valid on up drafted trial put small = let k = manager_of m in
      ready_by p.done d m (Some (form.Commit now p.ops)) Nothing (commit k ops now) (commit_is k p.done refl up trial)
      (up_from m up) on (record { put = put; small = small; is_record = is_record (tried m.store.state now ops) trial })
      ((fit k).requests (Commit now ops) tt) (by_request k answer.Committed (commit k ops now) ((keep k valid).requests (Commit now ops) drafted)) ((leave k valid).requests (Commit now ops) tt)

-- Where it went well the disk was called for its record.
pub counted_answered : {V E : Type 0} (value : V) (memory broken : E) (o : Option Record) (P : Type 0) (w : Result (Unit {0}) WriteFault)
    → OnOk w P → OnOk (answered w value memory broken) (IfSome o (λ _. P))
counted_answered value memory broken None P (Ok done) h = tt
counted_answered value memory broken (Some r) P (Ok done) h = h
counted_answered value memory broken o P (Err write_fault.Memory) h = tt
counted_answered value memory broken o P (Err write_fault.DiskFault) h = tt
