-- A call of a manager, by what it writes.
use Rattle.std.proofs.Common.{inl, inr, refl, sym, ap, subst, ◌∙◌, arith}
use Rattle.std.specs.Prelude.{◌≡◌, ◌≤◌, Err, IfSome, IsOk, IsSome, IsSomeAnd, None, Ok, OnErr, OnOk, Option, Result, Some, false, length, option_map, true}
use Rattle.mqb_outside.specs.Disk.{Lawful, View}
use Rattle.mqb_entries.specs.SpelledEntries.{Fits, spelled}
use Rattle.mqb_entries.specs.declared.entry.Entry.{Entry}
use Rattle.mqb_model.specs.calls.Call as request
use Rattle.mqb_model.specs.declared.limits.TheConstants.{MAX_RECORD}
use Rattle.mqb_model.specs.laws.Durable as model_laws
use Rattle.mqb_model.specs.laws.Fitting.{IsFitting}
use Rattle.mqb_model.specs.laws.Keeping.{StaysValid}
use Rattle.mqb_model.specs.managers.Beside.{Beside}
use Rattle.mqb_model.specs.managers.Manager.{Manager, rest_for}
use Rattle.mqb_model.specs.managers.Outcomes.{Outcome, answering, succeeded, unless}
use Rattle.mqb_model.specs.managers.Valid.{IsValidManager}
use Rattle.mqb_model.specs.records.Applying.{fits}
use Rattle.mqb_model.specs.records.Reading.{record_in, record_of}
use Rattle.mqb_model.specs.records.Record.{Record}
use Rattle.mqb_model.specs.state.State.{State}
use Rattle.mqb_outside.specs.Faults.{Rose}
use Rattle.mqb_store.specs.Writing.{CanWrite, change_in}
use Rattle.mqb_store.specs.declared.faults.WriteFault.{WriteFault}
use Rattle.mqb_store.specs.declared.faults.WriteFault.TheVariants as fault
use Rattle.mqb_store.specs.mqb_store_laws.lemmas.Carrying.{quiet_opens}
use Rattle.mqb_store.specs.mqb_store_laws.lemmas.Writing.{writes_nothing}
use Rattle.mqb_manager.specs.Calls.{Ends, IsCall}
use Rattle.mqb_manager.specs.States.{IsOnDisk, IsSame, IsUp, ManagerState, manager_of}
use Rattle.mqb_manager.specs.Writing.{IsReady, answered, outcome_by}
use Rattle.mqb_choosing.proofs.Rests.{grown_whole}

-- A call that is not refused.

pub unless_none : {V E : Type 0} (m : Manager) (why : Option E) (o : Outcome (Result V E)) → why ≡ None → unless m why o ≡ o
unless_none m why o e = ap (λ why. unless m why o) e

pub unless_some : {V E : Type 0} (m : Manager) (why : Option E) (fault : E) (o : Outcome (Result V E)) → why ≡ Some fault → unless m why o ≡ answering m (Err fault)
unless_some m why fault o e = ap (λ why. unless m why o) e

-- Nothing is done.

errs : {V E : Type 0} (a b : E) → (a ≡ b → ⊥) → ◌≡◌ {A = Result V E} (Err a) (Err b) → ⊥
errs a b differ same = let inside : a ≡ b = cc in differ inside

same_again : (m : ManagerState) → IsSame m m
same_again m = record { manager = refl; store = record { state = refl; journal = refl; lines = refl } }

-- a call that changes nothing leaves a valid manager as it was
pub stays_same : {A : Type 0} (m : Manager) (answer : A) → IsValidManager m → m ≡ succeeded m (answering m answer)
stays_same m answer valid = sym (
    ap (λ ns. record m { rest = record m.rest { cursors = ns; owes = (rest_for m.state m.rest).owes } }) (grown_whole 0 (length m.state.outs) m.rest.cursors valid.cursors)
    ∙ ap (λ bs. record m { rest = record m.rest { owes = bs } }) (grown_whole false (length m.state.ins) m.rest.owes valid.owes))

-- it is refused, for a reason that is not that the disk failed
pub refused_call : {V E : Type 0} (memory broken why : E) (d : View) (m : ManagerState) (o : Outcome (Result V E)) → Lawful d → IsValidManager (manager_of m)
    → o ≡ answering (manager_of m) (Err why) → (why ≡ broken → ⊥) → IsCall memory broken d d m m o (Err why)
refused_call {V} {E} memory broken why d m o law valid is differ = subst (λ (p : Outcome (Result V E)). IsCall memory broken d d m m p (Err why)) (sym is) (record {
  ends = inl (
    refl,
    record {
      manager = stays_same {A = Result V E} (manager_of m) (Err why) valid;
      lines = refl;
      count = omega arith;
      guid = refl;
    },
  );
  on = λ on still. on;
  settled = λ on settled still. settled;
  wrote = writes_nothing d m.store.journal m.store.journal m.store.entry None law refl;
  moments = λ on settled. quiet_opens d m.store.journal m.store.state None law on settled;
  doubt = λ on settled not_up. (quiet_opens d m.store.journal m.store.state (record_of m.store.entry) law on settled).now;
  rose = λ same. absurd (errs why broken differ same);
  stayed = λ not. refl;
  switch = refl;
})

-- memory was wanting before anything was written
pub unmade_call : {V E : Type 0} (memory broken : E) (d : View) (m : ManagerState) (o : Outcome (Result V E)) → Lawful d → (memory ≡ broken → ⊥)
    → IsCall memory broken d d m m o (Err memory)
unmade_call memory broken d m o law differ = record {
  ends = inr (inl (refl, same_again m));
  on = λ on still. on;
  settled = λ on settled still. settled;
  wrote = writes_nothing d m.store.journal m.store.journal m.store.entry o.entry law refl;
  moments = λ on settled. quiet_opens d m.store.journal m.store.state o.entry law on settled;
  doubt = λ on settled not_up. (quiet_opens d m.store.journal m.store.state (record_of m.store.entry) law on settled).now;
  rose = λ same. absurd (errs memory broken differ same);
  stayed = λ not. refl;
  switch = refl;
}

-- Refusals come first.

-- it is refused for the reason of the definition
pub first_refused : {V E : Type 0} (why : E) (m : Manager) (o : Outcome (Result V E)) → o ≡ answering m (Err why) → OnErr o.answer (Err why ≡ o.answer)
first_refused {V} {E} why m o is = subst (λ (p : Outcome (Result V E)). OnErr p.answer (Err why ≡ p.answer)) (sym is) refl

-- nothing refuses it, whatever it answers
pub first_unrefused : {V E : Type 0} (answer result : Result V E) → IsOk answer → OnErr answer (result ≡ answer)
first_unrefused (Ok value) result ok = tt
first_unrefused (Err why) result ok = absurd (let none : ⊥ = cc in none)

-- nothing refuses it, and it is written
pub first_written : {V E : Type 0} (value : V) (m : Manager) (r : Option Record) (b : Beside) (o : Outcome (Result V E)) (result : Result V E)
    → o ≡ outcome_by m r b (Ok value) → OnErr o.answer (result ≡ o.answer)
first_written {V} {E} value m r b o result is = subst (λ (p : Outcome (Result V E)). OnErr p.answer (result ≡ p.answer)) (sym is) tt

-- It is written.

ends_written : {V E : Type 0} (value : V) (memory broken : E) (m n : ManagerState) (r : Option Record) (b : Beside) (w : Result (Unit {0}) WriteFault)
    → Ends fault.Memory fault.DiskFault m n (outcome_by (manager_of m) r b (Ok tt)) w
    → Ends memory broken m n (outcome_by (manager_of m) r b (Ok value)) (answered w value memory broken)
ends_written value memory broken m n r b (Ok done) (inl h) = inl (refl, record { manager = h.1.manager; lines = h.1.lines; count = h.1.count; guid = h.1.guid })
ends_written value memory broken m n r b (Ok done) (inr (inl h)) = absurd (let wrong = h.0 in let none : ⊥ = cc in none)
ends_written value memory broken m n r b (Ok done) (inr (inr h)) = absurd (let wrong = h.0 in let none : ⊥ = cc in none)
ends_written value memory broken m n r b (Err fault.Memory) (inl h) = absurd (let wrong = h.0 in let none : ⊥ = cc in none)
ends_written value memory broken m n r b (Err fault.Memory) (inr (inl h)) = inr (inl (refl, h.1))
ends_written value memory broken m n r b (Err fault.Memory) (inr (inr h)) = absurd (let wrong = h.0 in let none : ⊥ = cc in none)
ends_written value memory broken m n r b (Err fault.DiskFault) (inl h) = absurd (let wrong = h.0 in let none : ⊥ = cc in none)
ends_written value memory broken m n r b (Err fault.DiskFault) (inr (inl h)) = absurd (let wrong = h.0 in let none : ⊥ = cc in none)
ends_written value memory broken m n r b (Err fault.DiskFault) (inr (inr h)) = inr (inr (
  refl,
  record { entry = h.1.entry; manager = h.1.manager; lines = h.1.lines; count = h.1.count; guid = h.1.guid },
))

rose_written : {V E : Type 0} (value : V) (memory broken : E) (P : Type 0) (w : Result (Unit {0}) WriteFault) → (memory ≡ broken → ⊥)
    → (w ≡ Err fault.DiskFault → P) → answered w value memory broken ≡ Err broken → P
rose_written value memory broken P (Ok done) differ rose same = absurd (let none : ⊥ = cc in none)
rose_written value memory broken P (Err fault.Memory) differ rose same = absurd (errs memory broken differ same)
rose_written value memory broken P (Err fault.DiskFault) differ rose same = rose refl

stayed_written : {V E : Type 0} (value : V) (memory broken : E) (P : Type 0) (w : Result (Unit {0}) WriteFault)
    → ((w ≡ Err fault.DiskFault → ⊥) → P) → (answered w value memory broken ≡ Err broken → ⊥) → P
stayed_written value memory broken P (Ok done) stayed not = stayed (λ same. let none : ⊥ = cc in none)
stayed_written value memory broken P (Err fault.Memory) stayed not = stayed (λ same. let none : ⊥ = cc in none)
stayed_written value memory broken P (Err fault.DiskFault) stayed not = absurd (not refl)

-- A call that comes to a record and to what is done beside it is made by a write of both.
pub call_by_write : {V E : Type 0} (value : V) (memory broken : E) (d e : View) (m n : ManagerState) (r : Option Record) (b : Beside) (o : Outcome (Result V E))
    (w : Result (Unit {0}) WriteFault) → (memory ≡ broken → ⊥) → o ≡ outcome_by (manager_of m) r b (Ok value)
    → IsCall fault.Memory fault.DiskFault d e m n (outcome_by (manager_of m) r b (Ok tt)) w → IsCall memory broken d e m n o (answered w value memory broken)
call_by_write {V} {E} value memory broken d e m n r b o w differ is call =
    subst (λ (p : Outcome (Result V E)). IsCall memory broken d e m n p (answered w value memory broken)) (sym is) (record {
      ends = ends_written value memory broken m n r b w call.ends;
      on = call.on;
      settled = call.settled;
      wrote = call.wrote;
      moments = call.moments;
      doubt = call.doubt;
      rose = rose_written value memory broken (Rose d.faults e.faults) w differ call.rose;
      stayed = stayed_written value memory broken (e.faults ≡ d.faults) w call.stayed;
      switch = call.switch;
    })

-- what it answers
pub call_answered : {V E : Type 0} (value : V) (memory broken : E) (d e : View) (m n : ManagerState) (r : Option Record) (b : Beside) (o : Outcome (Result V E))
    (w : Result (Unit {0}) WriteFault) (result : Result V E) → (memory ≡ broken → ⊥) → o ≡ outcome_by (manager_of m) r b (Ok value)
    → IsCall fault.Memory fault.DiskFault d e m n (outcome_by (manager_of m) r b (Ok tt)) w → result ≡ answered w value memory broken
    → IsCall memory broken d e m n o result
call_answered {V} {E} value memory broken d e m n r b o w result differ is call answer =
    subst (λ (q : Result V E). IsCall memory broken d e m n o q) (sym answer) (call_by_write value memory broken d e m n r b o w differ is call)

-- where memory was wanting, so it was when the record was to be written
pub memory_answered : {V E : Type 0} (value : V) (memory broken : E) (P : Type 0) (w : Result (Unit {0}) WriteFault) (result : Result V E) → (memory ≡ broken → ⊥)
    → (w ≡ Err fault.Memory → P) → result ≡ answered w value memory broken → result ≡ Err memory → P
memory_answered value memory broken P (Ok done) result differ stayed answer same = absurd (let none : ⊥ = cc in none)
memory_answered value memory broken P (Err fault.Memory) result differ stayed answer same = stayed refl
memory_answered value memory broken P (Err fault.DiskFault) result differ stayed answer same = absurd (errs memory broken differ (sym same ∙ answer))

pub ok_answered : {V E : Type 0} (value : V) (memory broken : E) (P : Type 0) (w : Result (Unit {0}) WriteFault) → OnOk w P → OnOk (answered w value memory broken) P
ok_answered value memory broken P (Ok done) h = h
ok_answered value memory broken P (Err fault.Memory) h = tt
ok_answered value memory broken P (Err fault.DiskFault) h = tt

-- What can be written.

-- An entry can be put, and is a record.
pub record CanPut (entry : Entry) : Type 0 where
  pub put : Fits entry
  pub small : length (spelled entry) ≤ MAX_RECORD
  pub is_record : IsSome (record_in entry)

fit_in : (s : State) (o : Option Record) → IsSome o → IfSome o (λ r. fits s r ≡ true) → IsSomeAnd o (λ r. fits s r ≡ true)
fit_in s None there fit = absurd (let none : ⊥ = cc in none)
fit_in s (Some r) there fit = fit

pub can_write : (s : State) (entry : Option Entry) → IfSome entry CanPut → IfSome (change_in entry) (λ r. fits s r ≡ true) → IfSome entry (CanWrite s)
can_write s None put fit = tt
can_write s (Some form) put fit = record { put = put.put; small = put.small; fits = fit_in s (record_in form) put.is_record fit }

-- a manager stays valid by a call where it does by the request for it
pub by_request : {A : Type 0} (m : Manager) (says : A → request.Answer) (o : Outcome A) → StaysValid m (request.answered says o) → StaysValid m o
by_request m says o h = record { succeeds = h.succeeds; fails = h.fails }

-- a call of a valid manager can be written
pub ready_by : {V E : Type 0} (value : V) (d : View) (m : ManagerState) (entry : Option Entry) (b : Beside) (o : Outcome (Result V E))
    → o ≡ outcome_by (manager_of m) (change_in entry) b (Ok value) → IsUp m → (IsUp m → IsOnDisk d m) → IfSome entry CanPut
    → IsFitting (manager_of m) o → StaysValid (manager_of m) o → model_laws.LeavesStore (manager_of m) o → IsReady d m entry b
ready_by {V} {E} value d m entry b o is up on put fit valid stored =
    let valid_p = subst (λ (q : Outcome (Result V E)). StaysValid (manager_of m) q) is valid in
    record {
      up = up;
      on = on up;
      can = can_write m.store.state entry put (subst (λ (q : Outcome (Result V E)). IsFitting (manager_of m) q) is fit);
      valid = record { succeeds = valid_p.succeeds; fails = valid_p.fails };
      stored = subst (λ (q : Outcome (Result V E)). model_laws.LeavesStore (manager_of m) q) is stored;
    }

-- An entry as a plan gives it: it is the plan's record, or there is neither.

shown_some : (o : Option Record) (r : Record) → o ≡ Some r → IsSome o
shown_some o r e = subst IsSome (sym e) refl

pub put_by : (entry : Option Entry) (r : Option Record) → option_map record_in entry ≡ option_map (λ r. Some r) r
    → IfSome entry Fits → IfSome entry (λ e. length (spelled e) ≤ MAX_RECORD) → IfSome entry CanPut
put_by None r shown put small = tt
put_by (Some form) None shown put small = absurd (let none : ⊥ = cc in none)
put_by (Some form) (Some r) shown put small = record { put = put; small = small; is_record = shown_some (record_in form) r (let is : record_in form ≡ Some r = cc in is) }

pub change_is : (entry : Option Entry) (r : Option Record) → option_map record_in entry ≡ option_map (λ r. Some r) r → change_in entry ≡ r
change_is None None shown = refl
change_is None (Some r) shown = absurd (let none : ⊥ = cc in none)
change_is (Some form) None shown = absurd (let none : ⊥ = cc in none)
change_is (Some form) (Some r) shown = let is : record_in form ≡ Some r = cc in is

-- the same of what is left on the disk where there is no record
pub entry_is : {V E : Type 0} (value : V) (m : Manager) (r : Option Record) (b : Beside) (o : Outcome (Result V E)) → o ≡ outcome_by m r b (Ok value) → o.entry ≡ r
entry_is value m r b o is = ap (λ o. o.entry) is
