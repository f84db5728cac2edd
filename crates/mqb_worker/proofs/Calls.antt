-- A step as a call of a manager.
use Rattle.std.proofs.Common.{ap, ap₂, inl, inr, refl, subst, sym, ◌∙◌}
use Rattle.std.specs.Prelude.{◌≡◌, Bool, Err, IfErr, IfOk, List, Ok, Result, false, if◌then◌else◌, ℕ}
use Rattle.mqb_outside.specs.Disk.{Lawful, View}
use Rattle.mqb_replies.specs.mqb_manager.Calls.{Ends, IsCall}
use Rattle.mqb_replies.specs.mqb_manager.States.{ManagerState, manager_of}
use Rattle.mqb_base.specs.declared.draft.Op.{Op}
use Rattle.mqb_model.specs.calls.Commit.{commit}
use Rattle.mqb_model.specs.declared.answers.Done.{Done}
use Rattle.mqb_model.specs.declared.faults.CommitFault.{CommitFault}
use Rattle.mqb_model.specs.declared.faults.CommitFault.TheVariants as fault
use Rattle.mqb_model.specs.managers.Manager.{Manager, is_down}
use Rattle.mqb_model.specs.managers.Outcomes.{Outcome, answering}
use Rattle.mqb_model.specs.records.Reading.{record_of}
use Rattle.mqb_store_laws.specs.lemmas.Carrying.{quiet_opens}
use Rattle.mqb_store_laws.specs.lemmas.Writing.{writes_nothing}
use Rattle.mqb_worker.specs.Refusals.{RefusesStep}
use Rattle.mqb_worker.specs.Steps.{TellsWork, step_answer, stepped, told_step}
use Rattle.mqb_worker.specs.Work.{is_idle, work}
use Rattle.mqb_worker.specs.declared.telling.Step.{Step}
use Rattle.mqb_worker.specs.declared.telling.Step.TheVariants as step
use Rattle.mqb_worker.proofs.Refused.{step_refused}
use Rattle.mqb_worker.proofs.Works.{step_tells}

-- A call that calls no disk and leaves the manager.
uncalled : {V E : Type 0} (memory broken : E) (d : View) (m : ManagerState) (o : Outcome (Result V E)) (r : Result V E) → Lawful d → (r ≡ Err broken → ⊥)
    → Ends memory broken m m o r → IsCall memory broken d d m m o r
uncalled memory broken d m o r law differ ends = record {
  ends = ends;
  on = λ on still. on;
  settled = λ on settled still. settled;
  wrote = writes_nothing d m.store.journal m.store.journal m.store.entry o.entry law refl;
  moments = λ on settled. quiet_opens d m.store.journal m.store.state o.entry law on settled;
  doubt = λ on settled not_up. (quiet_opens d m.store.journal m.store.state (record_of m.store.entry) law on settled).now;
  rose = λ same. absurd (differ same);
  stayed = λ not. refl;
  switch = refl;
}

-- memory was wanting
wants : {V E : Type 0} (memory broken : E) (m : ManagerState) (o : Outcome (Result V E)) → Ends memory broken m m o (Err memory)
wants memory broken m o = inr (inl (refl, record { manager = refl; store = record { state = refl; journal = refl; lines = refl } }))

-- A transaction, as a step tells it.

broken_back : (a : Result (List Done) CommitFault) → step_answer a ≡ Err fault.DiskFault → a ≡ Err fault.DiskFault
broken_back (Ok ops) same = let none : ⊥ = cc in absurd none
broken_back (Err why) same = let inside : why ≡ fault.DiskFault = cc in ap (λ (w : CommitFault). Err w) inside

ends_told : (m n : ManagerState) (o : Outcome (Result (List Done) CommitFault)) (a : Result (List Done) CommitFault)
    → Ends fault.Memory fault.DiskFault m n o a → Ends fault.Memory fault.DiskFault m n (told_step o) (step_answer a)
ends_told m n o a (inl went) = inl (
  ap step_answer went.0,
  record { manager = went.1.manager; lines = went.1.lines; count = went.1.count; guid = went.1.guid },
)
ends_told m n o a (inr (inl wants)) = inr (inl (ap step_answer wants.0, wants.1))
ends_told m n o a (inr (inr breaks)) = inr (inr (
  ap step_answer breaks.0,
  record {
    entry = breaks.1.entry;
    manager = breaks.1.manager;
    lines = breaks.1.lines;
    count = breaks.1.count;
    guid = breaks.1.guid;
  },
))

told : (d e : View) (m n : ManagerState) (o : Outcome (Result (List Done) CommitFault)) (a : Result (List Done) CommitFault)
    → IsCall fault.Memory fault.DiskFault d e m n o a → IsCall fault.Memory fault.DiskFault d e m n (told_step o) (step_answer a)
told d e m n o a call = record {
  ends = ends_told m n o a call.ends;
  on = call.on;
  settled = call.settled;
  wrote = call.wrote;
  moments = call.moments;
  doubt = call.doubt;
  rose = λ same. call.rose (broken_back a same);
  stayed = λ not. call.stayed (λ same. not (ap step_answer same));
  switch = call.switch;
}

-- What a step comes to that makes its transaction.

module _ (m : Manager) (name : List ℕ) (h : List ℕ → List ℕ) (now : ℕ) where
  abbrev by : (down idle : Bool) → Outcome (Result Step CommitFault)
  by down idle = if down then answering m (Err fault.Down) else if idle then answering m (Ok step.Idle) else told_step (commit m (work m.state name h now) now)

  pub stepped_works : is_down m ≡ false → is_idle m.state name now ≡ false → (ops : List Op) → ops ≡ work m.state name h now → stepped m name h now ≡ told_step (commit m ops now)
  stepped_works up busy ops are = ap₂ by up busy ∙ ap (λ (ops : List Op). told_step (commit m ops now)) (sym are)

-- How it ends.

module _ (d : View) (m : ManagerState) (name : List ℕ) (h : List ℕ → List ℕ) (now : ℕ) where
  abbrev pub Steps : View → ManagerState → Result Step CommitFault → Type 0
  Steps e n r = IsCall fault.Memory fault.DiskFault d e m n (stepped (manager_of m) name h now) r

  -- it wants memory for its ops
  pub wants_ops : Lawful d → Steps d m (Err fault.Memory)
  wants_ops law =
      let o = stepped (manager_of m) name h now in
      uncalled fault.Memory fault.DiskFault d m o (Err fault.Memory) law (λ same. let none : ⊥ = cc in none) (wants fault.Memory fault.DiskFault m o)

  -- its transaction is made
  pub is_made : (e : View) (n : ManagerState) (ops : List Op) (a : Result (List Done) CommitFault) (r : Result Step CommitFault) → r ≡ step_answer a
      → stepped (manager_of m) name h now ≡ told_step (commit (manager_of m) ops now)
      → IsCall fault.Memory fault.DiskFault d e m n (commit (manager_of m) ops now) a → Steps e n r
  is_made e n ops a r answered is call =
      subst (λ (r : Result Step CommitFault). Steps e n r) (sym answered)
      (subst (λ (o : Outcome (Result Step CommitFault)). IsCall fault.Memory fault.DiskFault d e m n o (step_answer a)) (sym is)
      (told d e m n (commit (manager_of m) ops now) a call))

  -- What it answers.

  ends_tell : (n : ManagerState) (r : Result Step CommitFault) (P : Step → Type 0) → Ends fault.Memory fault.DiskFault m n (stepped (manager_of m) name h now) r
      → IfOk (stepped (manager_of m) name h now).answer P → IfOk r P
  ends_tell n r P (inl went) is = subst (λ (r : Result Step CommitFault). IfOk r P) (sym went.0) is
  ends_tell n r P (inr (inl wants)) is = subst (λ (r : Result Step CommitFault). IfOk r P) (sym wants.0) tt
  ends_tell n r P (inr (inr breaks)) is = subst (λ (r : Result Step CommitFault). IfOk r P) (sym breaks.0) tt

  ends_refuse : (n : ManagerState) (r : Result Step CommitFault) (P : CommitFault → Type 0) → P fault.Memory → P fault.DiskFault
      → Ends fault.Memory fault.DiskFault m n (stepped (manager_of m) name h now) r → IfErr (stepped (manager_of m) name h now).answer P → IfErr r P
  ends_refuse n r P memory broken (inl went) is = subst (λ (r : Result Step CommitFault). IfErr r P) (sym went.0) is
  ends_refuse n r P memory broken (inr (inl wants)) is = subst (λ (r : Result Step CommitFault). IfErr r P) (sym wants.0) memory
  ends_refuse n r P memory broken (inr (inr breaks)) is = subst (λ (r : Result Step CommitFault). IfErr r P) (sym breaks.0) broken

  pub call_tells : (e : View) (n : ManagerState) (r : Result Step CommitFault) → Steps e n r → IfOk r (TellsWork m.store.state name now)
  call_tells e n r call = ends_tell n r (TellsWork m.store.state name now) call.ends (step_tells (manager_of m) name h now)

  pub call_refused : (e : View) (n : ManagerState) (r : Result Step CommitFault) → Steps e n r → IfErr r (RefusesStep m.store.state name now)
  call_refused e n r call = ends_refuse n r (RefusesStep m.store.state name now) tt tt call.ends (step_refused (manager_of m) name h now)
