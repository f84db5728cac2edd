-- A call of a manager that comes to a plan, and what is written by it.
use Rattle.std.proofs.Common.{refl, sym, ap, subst, ◌∙◌}
use Rattle.std.specs.Prelude.{◌≡◌, ◌≤◌, Err, IfSome, None, Ok, OnOk, Option, Result, Some, false, length, option_map, true}
use Rattle.mqb_base.specs.Rooms.{WithRooms}
use Rattle.mqb_choosing.specs.mqb_contents.Rooms.{StateRooms}
use Rattle.mqb_outside.specs.Disk.{Lawful, View}
use Rattle.mqb_entries.specs.SpelledEntries.{Fits, spelled}
use Rattle.mqb_entries.specs.declared.entry.Entry.{Entry}
use Rattle.mqb_model.specs.declared.limits.TheConstants.{MAX_RECORD}
use Rattle.mqb_model.specs.managers.Beside.{Beside, beside_done}
use Rattle.mqb_model.specs.managers.Manager.{Manager, is_down}
use Rattle.mqb_model.specs.managers.Outcomes.{Outcome, answering, recorded}
use Rattle.mqb_model.specs.laws.Keeping.{StaysValid}
use Rattle.mqb_model.specs.managers.Valid.{IsValidManager, IsWritable}
use Rattle.mqb_model.specs.records.Applying.{fits}
use Rattle.mqb_model.specs.records.Reading.{record_in}
use Rattle.mqb_model.specs.records.Record.{Record}
use Rattle.mqb_model.specs.state.Durable.{durable}
use Rattle.mqb_model.specs.state.State.{State}
use Rattle.mqb_plans.specs.Plans as plans
use Rattle.mqb_plans.specs.Plans.{ComesTo, KeepsStore, KeepsValid, Plan, Refuses, outcome_of}
use Rattle.mqb_store.specs.Writing.{LeavesStore, change_in}
use Rattle.mqb_store.specs.declared.faults.WriteFault.{WriteFault}
use Rattle.mqb_store.specs.declared.faults.WriteFault.TheVariants as fault
use Rattle.mqb_manager.specs.Calls.{IsCall}
use Rattle.mqb_manager.specs.States.{IsOnDisk, IsUp, ManagerState, manager_of}
use Rattle.mqb_manager.specs.Writing.{IsReady, answered, outcome_by, write_of}
use Rattle.mqb_manager.proofs.Calls.{can_write, change_is, call_answered, put_by, refused_call}
use Rattle.mqb_manager.proofs.Conditions.{up_from}

-- A manager that is up keeps this.
pub record Keeps (s : State) (m : ManagerState) : Type 0 where
  pub valid : IsValidManager (manager_of m)
  pub up : is_down (manager_of m) ≡ false
  pub kept : m.store.state ≡ s

-- A plan to which a call comes where this is kept, and the entry and the work by which it is done.
pub record IsPlan {V E : Type 0} (s : State) (call : Manager → Outcome (Result V E)) (p : Plan) (value : V) (entry : Option Entry) (b : Beside) : Type 0 where
  pub planned : ComesTo s call p value
  pub writable : plans.CanWrite s p
  pub stays_valid : KeepsValid s p
  pub stays_stored : KeepsStore s p
  pub shown : option_map record_in entry ≡ option_map (λ r. Some r) p.written
  pub put : IfSome entry Fits
  pub small : IfSome entry (λ e. length (spelled e) ≤ MAX_RECORD)
  pub work : b ≡ p.beside

-- It keeps what its store has.
pub keeps_by : (m : ManagerState) (w : WithRooms State StateRooms) → IsValidManager (manager_of m) → is_down (manager_of m) ≡ false → w.lists ≡ m.store.state → Keeps w.lists m
keeps_by m w valid up kept = record { valid = valid; up = up; kept = sym kept }

-- What its maker says of a plan, and what is said of the entry of its record, is a plan, where that entry is written.
pub plan_by : {V E : Type 0} (s : State) (call : Manager → Outcome (Result V E)) (p : Plan) (value : V) (from entry : Option Entry) (b : Beside) → entry ≡ from
    → ComesTo s call p value → plans.CanWrite s p → KeepsValid s p → KeepsStore s p → option_map record_in from ≡ option_map (λ r. Some r) p.written
    → IfSome from Fits → IfSome from (λ e. length (spelled e) ≤ MAX_RECORD) → b ≡ p.beside → IsPlan s call p value entry b
plan_by s call p value from entry b is planned writable stays_valid stays_stored shown put small work = record {
  planned = planned;
  writable = writable;
  stays_valid = stays_valid;
  stays_stored = stays_stored;
  shown = ap (λ (o : Option Entry). option_map record_in o) is ∙ shown;
  put = subst (λ (o : Option Entry). IfSome o Fits) (sym is) put;
  small = subst (λ (o : Option Entry). IfSome o (λ e. length (spelled e) ≤ MAX_RECORD)) (sym is) small;
  work = work;
}

writable_fits : (s : State) (r : Option Record) → IfSome r (IsWritable s) → IfSome r (λ r. fits s r ≡ true)
writable_fits s None h = tt
writable_fits s (Some r) h = h.fits

-- What is said of the entry, as of the record.

counted : (entry : Option Entry) (r : Option Record) (P : Type 0) → option_map record_in entry ≡ option_map (λ r. Some r) r → IfSome entry (λ _. P) → IfSome r (λ _. P)
counted None None P shown h = tt
counted None (Some r) P shown h = absurd (let none : ⊥ = cc in none)
counted (Some form) None P shown h = tt
counted (Some form) (Some r) P shown h = h

counted_ok : {V E : Type 0} (value : V) (memory broken : E) (entry : Option Entry) (r : Option Record) (P : Type 0) (w : Result (Unit {0}) WriteFault)
    → option_map record_in entry ≡ option_map (λ r. Some r) r → OnOk w (IfSome entry (λ _. P)) → OnOk (answered w value memory broken) (IfSome r (λ _. P))
counted_ok value memory broken entry r P (Ok done) shown h = counted entry r P shown h
counted_ok value memory broken entry r P (Err fault.Memory) shown h = tt
counted_ok value memory broken entry r P (Err fault.DiskFault) shown h = tt

no_entry : (entry : Option Entry) (r : Option Record) → option_map record_in entry ≡ option_map (λ r. Some r) r → r ≡ None → entry ≡ None
no_entry None r shown none = refl
no_entry (Some form) None shown none = absurd (let wrong : ⊥ = cc in wrong)
no_entry (Some form) (Some r) shown none = absurd (let wrong : ⊥ = cc in wrong)

module _ {V E : Type 0} (s : State) (call : Manager → Outcome (Result V E)) (p : Plan) (value : V) (entry : Option Entry) (b : Beside)
    (m : ManagerState) (keeps : Keeps s m) (plan : IsPlan s call p value entry b) where
  change : change_in entry ≡ p.written
  change = change_is entry p.written plan.shown

  comes : call (manager_of m) ≡ outcome_of (manager_of m) p (Ok value)
  comes = plan.planned (manager_of m) keeps.kept keeps.up

  -- The call comes to what is written by the plan.
  pub planned_is : call (manager_of m) ≡ outcome_by (manager_of m) (change_in entry) b (Ok value)
  planned_is =
      comes
      ∙ ap (λ (r : Option Record). outcome_by {A = Result V E} (manager_of m) r p.beside (Ok value)) (sym change)
      ∙ ap (λ (work : Beside). outcome_by {A = Result V E} (manager_of m) (change_in entry) work (Ok value)) (sym plan.work)

  planned_entry : (call (manager_of m)).entry ≡ p.written
  planned_entry = ap (λ (o : Outcome (Result V E)). o.entry) comes

  valid_of : StaysValid (manager_of m) (outcome_by {A = Unit {0}} (manager_of m) (change_in entry) b tt)
  valid_of =
      subst (λ (work : Beside). StaysValid (manager_of m) (outcome_by {A = Unit {0}} (manager_of m) (change_in entry) work tt)) (sym plan.work)
      (subst (λ (r : Option Record). StaysValid (manager_of m) (outcome_by {A = Unit {0}} (manager_of m) r p.beside tt)) (sym change)
      (plan.stays_valid (manager_of m) keeps.valid keeps.kept keeps.up))

  stored_of : LeavesStore s entry b
  stored_of =
      subst (λ (work : Beside). durable (beside_done work (recorded s (change_in entry))) ≡ durable (recorded s (change_in entry))) (sym plan.work)
      (subst (λ (r : Option Record). durable (beside_done p.beside (recorded s r)) ≡ durable (recorded s r)) (sym change)
      (plan.stays_stored (manager_of m) keeps.valid keeps.kept keeps.up))

  fit_of : IfSome (change_in entry) (λ r. fits s r ≡ true)
  fit_of = subst (λ (r : Option Record). IfSome r (λ r. fits s r ≡ true)) (sym change) (writable_fits s p.written plan.writable)

  -- It can be written.
  pub planned_ready : (d : View) → (IsUp m → IsOnDisk d m) → IsReady d m entry b
  planned_ready d on = let up = up_from m keeps.up in record {
    up = up;
    on = on up;
    can = can_write m.store.state entry (put_by entry p.written plan.shown plan.put plan.small)
        (subst (λ (s : State). IfSome (change_in entry) (λ r. fits s r ≡ true)) (sym keeps.kept) fit_of);
    valid = record { succeeds = valid_of.succeeds; fails = valid_of.fails };
    stored = subst (λ (s : State). LeavesStore s entry b) (sym keeps.kept) stored_of;
  }

  -- It was written, and this is answered.
  pub planned_call : (memory broken : E) (d e : View) (n : ManagerState) (w : Result (Unit {0}) WriteFault) (result : Result V E) → (memory ≡ broken → ⊥)
      → IsCall fault.Memory fault.DiskFault d e m n (write_of (manager_of m) entry b) w → result ≡ answered w value memory broken
      → IsCall memory broken d e m n (call (manager_of m)) result
  planned_call memory broken d e n w result differ written answer =
      call_answered value memory broken d e m n (change_in entry) b (call (manager_of m)) w result differ planned_is written answer

  -- Without a record no entry is written.
  pub planned_untouched : (call (manager_of m)).entry ≡ None → entry ≡ None
  planned_untouched none = no_entry entry p.written plan.shown (sym planned_entry ∙ none)

  -- The disk is called for the record.
  pub planned_counted : (memory broken : E) (P : Type 0) (w : Result (Unit {0}) WriteFault) (result : Result V E) → OnOk w (IfSome entry (λ _. P))
      → result ≡ answered w value memory broken → OnOk result (IfSome (call (manager_of m)).entry (λ _. P))
  planned_counted memory broken P w result h answer =
      subst (λ (r : Result V E). OnOk r (IfSome (call (manager_of m)).entry (λ _. P))) (sym answer)
      (subst (λ (r : Option Record). OnOk (answered w value memory broken) (IfSome r (λ _. P))) (sym planned_entry)
      (counted_ok value memory broken entry p.written P w plan.shown h))

-- A plan is refused, for a reason that is not that the disk failed.
pub planned_refused : {V E : Type 0} (memory broken why : E) (s : State) (call : Manager → Outcome (Result V E)) (d : View) (m : ManagerState) → Lawful d → Keeps s m
    → Refuses s call why → ((call (manager_of m)).answer ≡ Err broken → ⊥) → IsCall memory broken d d m m (call (manager_of m)) (Err why)
planned_refused {V} {E} memory broken why s call d m law keeps refused unbroken =
    let is : call (manager_of m) ≡ answering (manager_of m) (Err why) = refused (manager_of m) keeps.kept keeps.up in
    refused_call memory broken why d m (call (manager_of m)) law keeps.valid is
    (λ same. unbroken (ap (λ (o : Outcome (Result V E)). o.answer) is ∙ ap (λ (why : E). Err why) same))
