-- The call checkpoint.
use Rattle.std.proofs.Common.{ap, arith, inl, inr, refl, subst, sym, ◌∙◌}
use Rattle.std.specs.Prelude.{[], ◌≡◌, ◌↔◌, Bool, Err, List, None, Ok, Option, Result, Some, false, if◌then◌else◌, length, true, ℕ}
use Rattle.mqb_outside.specs.Disk.{AtMost, IsSettled, Lawful, LeavesOnly, View}
use Rattle.mqb_outside.specs.Faults.{Rose}
use Rattle.mqb_outside.specs.Images.{Each}
use Rattle.mqb_outside.specs.lemmas.Counts.{at_most_none}
use Rattle.mqb_journal.specs.Causes.{FaultsAsSaid, checkpoint_failed}
use Rattle.mqb_journal.specs.Journals.{RefusedBase}
use Rattle.mqb_journal.specs.States.{JournalState, is_too_far}
use Rattle.mqb_journal.specs.declared.faults.CheckpointFault.{CheckpointFault}
use Rattle.mqb_journal.specs.declared.faults.CheckpointFault.TheVariants as fault
use Rattle.mqb_model.specs.Lists.{grown}
use Rattle.mqb_model.specs.laws.Validity.{FailedIsValid}
use Rattle.mqb_model.specs.managers.Manager.{Condition, Down, no_rest, rest_for}
use Rattle.mqb_model.specs.managers.Outcomes.{Outcome, answering, failed_under}
use Rattle.mqb_model.specs.managers.Valid.{IsValidManager}
use Rattle.mqb_model.specs.records.Reading.{record_of}
use Rattle.mqb_model.specs.records.Record.{Record}
use Rattle.mqb_model.specs.state.State.{State}
use Rattle.mqb_session.specs.State as one_end
use Rattle.mqb_store.specs.mqb_store_laws.Checkpoints.{checkpoint_made, checkpoint_refusal, is_large}
use Rattle.mqb_store.specs.States as stores
use Rattle.mqb_store.specs.States.{IsSameStore, IsStoredOn, StoreState}
use Rattle.mqb_store.specs.mqb_store_laws.Images.{IsOn, Opens}
use Rattle.mqb_store.specs.mqb_store_laws.lemmas.Carrying.{quiet_opens}
use Rattle.mqb_manager.specs.Calls.{Succeeds}
use Rattle.mqb_manager.specs.Checkpoints.{EndsCheckpoint, IsCheckpoint, checkpoint_of}
use Rattle.mqb_manager.specs.Seen.{seen}
use Rattle.mqb_manager.specs.States.{ManagerState, condition_of, manager_of}
use Rattle.mqb_manager.proofs.Calls.{stays_same, unless_none, unless_some}
use Rattle.mqb_manager.proofs.Conditions.{down_condition, down_is, nothing_recorded, up_condition}

-- Why it is refused.

-- it is made
pub made : (m : ManagerState) → m.store.journal.down ≡ false → is_too_far m.store.journal ≡ false → is_large m.store.state ≡ false
    → checkpoint_of m ≡ checkpoint_made (manager_of m)
made m up near small = unless_none (manager_of m) (checkpoint_refusal (manager_of m) (is_too_far m.store.journal)) (checkpoint_made (manager_of m))
    (ap (λ b. if b then Some fault.Down else if is_too_far m.store.journal then Some fault.TooFar else if is_large m.store.state then Some fault.TooLarge else None) (down_is m ∙ up)
    ∙ ap (λ b. if b then Some fault.TooFar else if is_large m.store.state then Some fault.TooLarge else None) near
    ∙ ap (λ b. if b then Some fault.TooLarge else None) small)

-- its store is too far on
pub made_far : (m : ManagerState) → m.store.journal.down ≡ false → is_too_far m.store.journal ≡ true → checkpoint_of m ≡ answering (manager_of m) (Err fault.TooFar)
made_far m up far = unless_some (manager_of m) (checkpoint_refusal (manager_of m) (is_too_far m.store.journal)) fault.TooFar (checkpoint_made (manager_of m))
    (ap (λ b. if b then Some fault.Down else if is_too_far m.store.journal then Some fault.TooFar else if is_large m.store.state then Some fault.TooLarge else None) (down_is m ∙ up)
    ∙ ap (λ b. if b then Some fault.TooFar else if is_large m.store.state then Some fault.TooLarge else None) far)

-- the base is too large
pub made_large : (m : ManagerState) → m.store.journal.down ≡ false → is_too_far m.store.journal ≡ false → is_large m.store.state ≡ true
    → checkpoint_of m ≡ answering (manager_of m) (Err fault.TooLarge)
made_large m up near over = unless_some (manager_of m) (checkpoint_refusal (manager_of m) (is_too_far m.store.journal)) fault.TooLarge (checkpoint_made (manager_of m))
    (ap (λ b. if b then Some fault.Down else if is_too_far m.store.journal then Some fault.TooFar else if is_large m.store.state then Some fault.TooLarge else None) (down_is m ∙ up)
    ∙ ap (λ b. if b then Some fault.TooFar else if is_large m.store.state then Some fault.TooLarge else None) near
    ∙ ap (λ b. if b then Some fault.TooLarge else None) over)

-- The store is not too far on where it does not say so.
pub not_far : (j : JournalState) (r : Result (Unit {0}) CheckpointFault) → ((r ≡ Err fault.TooFar) ↔ ((j.down ≡ false) × (is_too_far j ≡ true))) → j.down ≡ false
    → (r ≡ Err fault.TooFar → ⊥) → is_too_far j ≡ false
not_far j r says up not = at (is_too_far j) refl
  where
    at : (b : Bool) → is_too_far j ≡ b → is_too_far j ≡ false
    at true far = absurd (not (says.1 (up, far)))
    at false near = near

-- What a store answers of one that went well.
pub record IsBased (d e : View) (w x : StoreState) : Type 0 where
  pub on : IsStoredOn e x
  pub state : x.state ≡ w.state
  pub lines : x.lines ≡ w.lines
  pub up : stores.IsUp x
  pub guid : x.journal.guid ≡ w.journal.guid
  pub count : x.journal.count ≡ w.journal.count
  pub settled : IsSettled e
  pub moments : IsStoredOn d w → IsSettled d → LeavesOnly d e (Opens w.journal w.state None)
  pub most : AtMost 7 d.calls e.calls
  pub stayed : e.faults ≡ d.faults
  pub switch : e.switch ≡ d.switch

-- What it answers of one in which the disk failed.
pub record IsUnbased (d e : View) (w x : StoreState) : Type 0 where
  pub state : x.state ≡ w.state
  pub lines : x.lines ≡ w.lines
  pub journal : x.journal ≡ record w.journal { down = true }
  pub entry : x.entry ≡ []
  pub moments : IsStoredOn d w → IsSettled d → LeavesOnly d e (Opens w.journal w.state None)
  pub most : AtMost 7 d.calls e.calls
  pub rose : Rose d.faults e.faults
  pub switch : e.switch ≡ d.switch

-- The manager is as it was.
module _ (w x : StoreState) (session : Option one_end.State) (cs : List ℕ) (os : List Bool) where
  kept_manager : stores.IsUp w → stores.IsUp x → x.state ≡ w.state → manager_of (seen x session cs os) ≡ manager_of (seen w session cs os)
  kept_manager up still state =
      ap (λ (t : State). record {
        state = t;
        rest = record { session = session; cursors = grown 0 (length t.outs) cs; owes = grown false (length t.ins) os };
        condition = condition_of x;
      }) state
      ∙ ap (λ (c : Condition). record {
        state = w.state;
        rest = record { session = session; cursors = grown 0 (length w.state.outs) cs; owes = grown false (length w.state.ins) os };
        condition = c;
      }) (up_condition x still ∙ sym (up_condition w up))

  still_up : stores.IsUp w → IsSameStore w x → stores.IsUp x
  still_up up same = ap (λ (j : JournalState). j.down) same.journal ∙ up

module _ (d e : View) (w x : StoreState) (session : Option one_end.State) (cs : List ℕ) (os : List Bool) where
  abbrev m : ManagerState
  m = seen w session cs os

  -- It went well.
  pub based_call : stores.IsUp w → is_too_far w.journal ≡ false → is_large w.state ≡ false → IsValidManager (manager_of m) → IsBased d e w x
      → IsCheckpoint d e m (seen x session cs os) (Ok tt)
  based_call up near small valid h = record {
    ends = inl (subst (λ (o : Outcome (Result (Unit {0}) CheckpointFault)). (Ok tt ≡ o.answer) × Succeeds m (seen x session cs os) o) (sym (made m up near small)) (
      refl,
      record {
        manager = kept_manager w x session cs os up h.up h.state ∙ stays_same {A = Result (Unit {0}) CheckpointFault} (manager_of m) (Ok tt) valid;
        lines = h.lines;
        count = omega (arith, h.count);
        guid = h.guid;
      },
    ));
    on = λ on still. h.on;
    settled = λ on settled still. h.settled;
    moments = h.moments;
    doubt = λ on settled not_up. absurd (not_up h.up);
    most = h.most;
    rose = λ same. absurd (let none : ⊥ = cc in none);
    stayed = λ not. h.stayed;
    switch = h.switch;
  }

  -- The disk failed.

  unbased_down : IsUnbased d e w x → x.journal.down ≡ true
  unbased_down h = ap (λ (j : JournalState). j.down) h.journal

  unbased_manager : IsUnbased d e w x → manager_of (seen x None [] []) ≡ failed_under (manager_of m) None
  unbased_manager h =
      ap (λ (t : State). record {
        state = t;
        rest = record { session = None; cursors = grown 0 (length t.outs) []; owes = grown false (length t.ins) [] };
        condition = condition_of x;
      }) h.state
      ∙ ap (λ (c : Condition). record {
        state = w.state;
        rest = rest_for w.state no_rest;
        condition = c;
      }) (down_condition x (unbased_down h) ∙ ap (λ (bytes : List ℕ). Down (record_of bytes)) h.entry ∙ ap (λ (r : Option Record). Down r) nothing_recorded)

  pub unbased_valid : FailedIsValid → IsValidManager (manager_of m) → IsUnbased d e w x → IsValidManager (manager_of (seen x None [] []))
  unbased_valid law valid h = subst IsValidManager (sym (unbased_manager h)) (law (manager_of m) None valid tt)

  not_still : IsUnbased d e w x → x.journal.down ≡ false → ⊥
  not_still h up = let down = unbased_down h in let none : ⊥ = cc in none

  left_open : IsUnbased d e w x → IsStoredOn d w → IsSettled d → Each e.leaves (Opens x.journal x.state (record_of x.entry))
  left_open h on settled =
      subst (λ (j : JournalState). Each e.leaves (Opens j x.state (record_of x.entry))) (sym h.journal)
      (subst (λ (s : State). Each e.leaves (Opens (record w.journal { down = true }) s (record_of x.entry))) (sym h.state)
      (subst (λ (r : Option Record). Each e.leaves (Opens (record w.journal { down = true }) w.state r)) (sym (ap record_of h.entry ∙ nothing_recorded))
      (λ c left. (h.moments on settled).now c left)))

  pub unbased_call : stores.IsUp w → is_too_far w.journal ≡ false → is_large w.state ≡ false → IsUnbased d e w x
      → IsCheckpoint d e m (seen x None [] []) (Err fault.DiskFault)
  unbased_call up near small h = record {
    ends = inr (inr (
      refl,
      record {
        touches = ap (λ (o : Outcome (Result (Unit {0}) CheckpointFault)). o.touches) (made m up near small);
        manager = unbased_manager h;
        lines = h.lines;
        count = ap (λ (j : JournalState). j.count) h.journal;
        guid = ap (λ (j : JournalState). j.guid) h.journal;
      },
    ));
    on = λ on still. absurd (not_still h still);
    settled = λ on settled still. absurd (not_still h still);
    moments = h.moments;
    doubt = λ on settled not_up. left_open h on settled;
    most = h.most;
    rose = λ same. h.rose;
    stayed = λ not. absurd (not refl);
    switch = h.switch;
  }

-- It is refused, or memory was wanting: the disk was not called.

errs : (a b : CheckpointFault) → (a ≡ b → ⊥) → ◌≡◌ {A = Result (Unit {0}) CheckpointFault} (Err a) (Err b) → ⊥
errs a b differ same = let inside : a ≡ b = cc in differ inside

-- it ends so, with a store that is the same
quiet_checkpoint : (d : View) (w x : StoreState) (session : Option one_end.State) (cs : List ℕ) (os : List Bool) (why : CheckpointFault) → Lawful d → stores.IsUp w
    → IsSameStore w x → (why ≡ fault.DiskFault → ⊥) → EndsCheckpoint (seen w session cs os) (seen x session cs os) (Err why)
    → IsCheckpoint d d (seen w session cs os) (seen x session cs os) (Err why)
quiet_checkpoint d w x session cs os why law up same differ ends = record {
  ends = ends;
  on = λ on still. subst (λ (j : JournalState). IsOn d j x.state) (sym same.journal)
      (subst (λ (s : State). IsOn d w.journal s) (sym same.state) on);
  settled = λ on settled still. settled;
  moments = λ on settled. quiet_opens d w.journal w.state None law on settled;
  doubt = λ on settled not_up. absurd (not_up (still_up w x session cs os up same));
  most = at_most_none 7 d.calls;
  rose = λ failed. absurd (errs why fault.DiskFault differ failed);
  stayed = λ not. refl;
  switch = refl;
}

-- over two disks of which the later is the former
over_same : {K : Type 0} (view : K → View) (before after : K) (m n : ManagerState) (r : Result (Unit {0}) CheckpointFault) → after ≡ before
    → IsCheckpoint (view before) (view before) m n r → IsCheckpoint (view before) (view after) m n r
over_same {K} view before after m n r same call = subst (λ (k : K). IsCheckpoint (view before) (view k) m n r) (sym same) call

-- for the first reason that holds
pub refused_checkpoint : {K : Type 0} (view : K → View) (before after : K) (w x : StoreState) (session : Option one_end.State) (cs : List ℕ) (os : List Bool) (why : CheckpointFault)
    → Lawful (view before) → stores.IsUp w → IsValidManager (manager_of (seen w session cs os)) → (why ≡ fault.DiskFault → ⊥)
    → checkpoint_of (seen w session cs os) ≡ answering (manager_of (seen w session cs os)) (Err why) → (after ≡ before) × IsSameStore w x
    → IsCheckpoint (view before) (view after) (seen w session cs os) (seen x session cs os) (Err why)
refused_checkpoint view before after w x session cs os why law up valid differ is same = let m = seen w session cs os in
    over_same view before after m (seen x session cs os) (Err why) same.0
    (quiet_checkpoint (view before) w x session cs os why law up same.1 differ
    (inl (subst (λ (o : Outcome (Result (Unit {0}) CheckpointFault)). (Err why ≡ o.answer) × Succeeds m (seen x session cs os) o) (sym is) (
      refl,
      record {
        manager = kept_manager w x session cs os up (still_up w x session cs os up same.1) same.1.state
            ∙ stays_same {A = Result (Unit {0}) CheckpointFault} (manager_of m) (Err why) valid;
        lines = same.1.lines;
        count = let counted = ap (λ (j : JournalState). j.count) same.1.journal in omega (arith, counted);
        guid = ap (λ (j : JournalState). j.guid) same.1.journal;
      },
    ))))

-- for want of memory
pub wanting_checkpoint : {K : Type 0} (view : K → View) (before after : K) (w x : StoreState) (session : Option one_end.State) (cs : List ℕ) (os : List Bool)
    → Lawful (view before) → stores.IsUp w → (after ≡ before) × IsSameStore w x
    → IsCheckpoint (view before) (view after) (seen w session cs os) (seen x session cs os) (Err fault.Memory)
wanting_checkpoint view before after w x session cs os law up same =
    over_same view before after (seen w session cs os) (seen x session cs os) (Err fault.Memory) same.0
    (quiet_checkpoint (view before) w x session cs os fault.Memory law up same.1 (λ wrong. let none : ⊥ = cc in none)
    (inr (inl (
      refl,
      record { manager = kept_manager w x session cs os up (still_up w x session cs os up same.1) same.1.state; store = same.1 },
    ))))

-- The same of a manager that is these parts.
pub of_parts : (d e : View) (parts whole n : ManagerState) (r : Result (Unit {0}) CheckpointFault) → parts ≡ whole → IsCheckpoint d e parts n r → IsCheckpoint d e whole n r
of_parts d e parts whole n r is call = subst (λ (k : ManagerState). IsCheckpoint d e k n r) is call

-- It calls the disk.
pub touched : (parts whole : ManagerState) → parts ≡ whole → checkpoint_of parts ≡ checkpoint_made (manager_of parts) → (checkpoint_of whole).touches ≡ false → ⊥
touched parts whole is made none =
    let does : (checkpoint_of parts).touches ≡ true = ap (λ (o : Outcome (Result (Unit {0}) CheckpointFault)). o.touches) made in
    let not : (checkpoint_of parts).touches ≡ false = ap (λ (k : ManagerState). (checkpoint_of k).touches) is ∙ none in
    let no : true ≡ false = sym does ∙ not in let clash : ⊥ = cc in clash

-- What is said of an answer is said of this one.

pub base_rose : (before after : ℕ) (r : Result (Unit {0}) CheckpointFault) → r ≡ Err fault.DiskFault → FaultsAsSaid checkpoint_failed before after r → Rose before after
base_rose before after r is cause = subst (λ (q : Result (Unit {0}) CheckpointFault). FaultsAsSaid checkpoint_failed before after q) is cause

pub base_refused : (r : Result (Unit {0}) CheckpointFault) (why : CheckpointFault) → r ≡ Err why → RefusedBase {T = Unit {0}} (Err why) → RefusedBase r
base_refused r why is refused = subst (λ (q : Result (Unit {0}) CheckpointFault). RefusedBase q) (sym is) refused
