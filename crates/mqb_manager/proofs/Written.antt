-- What a write leaves of a manager, by what it leaves of the store.
use Rattle.std.proofs.Common.{inl, inr, refl, sym, ap, subst, ◌∙◌, length}
use Rattle.std.specs.Option.{option_map_or}
use Rattle.std.specs.Prelude.{[], ◌+◌, ◌≡◌, Bool, Err, IfSome, IsSome, IsSomeAnd, List, None, Ok, Option, Result, Some, false, true, ℕ}
use Rattle.mqb_outside.specs.Disk.{IsSettled, Lawful, LeavesOnly, View}
use Rattle.mqb_outside.specs.Images.{Each}
use Rattle.mqb_entries.specs.declared.entry.Entry.{Entry}
use Rattle.mqb_journal.specs.Causes.{FaultsAsSaid}
use Rattle.mqb_journal.specs.States.{JournalState}
use Rattle.mqb_model.specs.Lists.{grown}
use Rattle.mqb_model.specs.managers.Beside.{Beside}
use Rattle.mqb_model.specs.managers.Manager.{Condition, Down, no_rest, rest_for}
use Rattle.mqb_model.specs.managers.Outcomes.{Outcome, failed, succeeded}
use Rattle.mqb_model.specs.managers.Valid.{IsValidManager}
use Rattle.mqb_model.specs.records.Reading.{record_in, record_of}
use Rattle.mqb_model.specs.records.Record.{Record}
use Rattle.mqb_model.specs.state.State.{State}
use Rattle.mqb_outside.specs.Faults.{Rose}
use Rattle.mqb_session.specs.State as one_end
use Rattle.mqb_store.specs.States as stores
use Rattle.mqb_store.specs.States.{IsSameStore, IsStoredOn, StoreState}
use Rattle.mqb_store.specs.Writing.{CanWrite, change_in, lines_then, write_failed, written}
use Rattle.mqb_store.specs.declared.faults.WriteFault.{WriteFault}
use Rattle.mqb_store.specs.declared.faults.WriteFault.TheVariants as fault
use Rattle.mqb_store.specs.mqb_store_laws.lemmas.Carrying.{quiet_opens}
use Rattle.mqb_store.specs.mqb_store_laws.lemmas.Writing.{writes_nothing}
use Rattle.mqb_store.specs.mqb_store_laws.Images.{IsOn, Opens}
use Rattle.mqb_store.specs.mqb_store_laws.Writing.{WritesOne}
use Rattle.mqb_manager.specs.Calls.{IsCall}
use Rattle.mqb_manager.specs.Seen.{seen}
use Rattle.mqb_manager.specs.States.{ManagerState, condition_of, manager_of}
use Rattle.mqb_manager.specs.Writing.{IsReady, write_of}
use Rattle.mqb_manager.proofs.Conditions.{down_condition, up_condition}
use Rattle.mqb_choosing.proofs.Rests.{grown_again, no_more}

-- What a store answers of a write that went well.
pub record IsStored (d e : View) (w x : StoreState) (entry : Option Entry) (b : Beside) : Type 0 where
  pub on : IsStoredOn e x
  pub state : x.state ≡ written w.state entry b
  pub lines : x.lines ≡ lines_then w.state w.lines entry
  pub up : stores.IsUp x
  pub guid : x.journal.guid ≡ w.journal.guid
  pub count : x.journal.count ≡ w.journal.count + option_map_or (λ _. 1) entry 0
  pub settled : IsSettled d → IsSettled e
  pub wrote : WritesOne d e w.journal x.journal x.entry (change_in entry)
  pub moments : IsSettled d → LeavesOnly d e (Opens w.journal w.state (change_in entry))
  pub stayed : e.faults ≡ d.faults
  pub switch : e.switch ≡ d.switch

-- What it answers of one in which the disk failed.
pub record IsBroken (d e : View) (w x : StoreState) (entry : Option Entry) : Type 0 where
  pub state : x.state ≡ w.state
  pub lines : x.lines ≡ w.lines
  pub journal : x.journal ≡ record w.journal { down = true }
  pub doubt : IsSomeAnd entry (λ e. record_of x.entry ≡ record_in e)
  pub wrote : WritesOne d e w.journal x.journal x.entry (change_in entry)
  pub moments : IsSettled d → LeavesOnly d e (Opens w.journal w.state (change_in entry))
  pub rose : Rose d.faults e.faults
  pub switch : e.switch ≡ d.switch

-- The record of an entry.

one_of : (o : Option Record) (P : Record → Type 0) → IsSomeAnd o P → ◌≡◌ {A = ℕ} (option_map_or (λ _. 1) o 0) 1
one_of None P h = absurd h
one_of (Some r) P h = refl

-- each entry is one record
count_same : (s : State) (entry : Option Entry) → IfSome entry (CanWrite s) → ◌≡◌ {A = ℕ} (option_map_or (λ _. 1) entry 0) (option_map_or (λ _. 1) (change_in entry) 0)
count_same s None can = refl
count_same s (Some e) can = sym (one_of (record_in e) _ can.fits)

none_of : (o : Option Record) (P : Record → Type 0) → IsSomeAnd o P → o ≡ None → ⊥
none_of None P h e = h
none_of (Some r) P h e = let none : ⊥ = cc in none

-- without a record there is no entry
pub no_entry : (s : State) (entry : Option Entry) → IfSome entry (CanWrite s) → change_in entry ≡ None → entry ≡ None
no_entry s None can e = refl
no_entry s (Some form) can e = absurd (none_of (record_in form) _ can.fits e)

some_of : (o : Option Record) (P : Record → Type 0) → IsSomeAnd o P → IsSome o
some_of None P h = absurd h
some_of (Some r) P h = refl

is_there : (s : State) (x : StoreState) (entry : Option Entry) → IfSome entry (CanWrite s) → IsSomeAnd entry (λ e. record_of x.entry ≡ record_in e) → IsSome (change_in entry)
is_there s x None can doubt = absurd doubt
is_there s x (Some e) can doubt = some_of (record_in e) _ can.fits

in_doubt : (x : StoreState) (entry : Option Entry) → IsSomeAnd entry (λ e. record_of x.entry ≡ record_in e) → record_of x.entry ≡ change_in entry
in_doubt x None doubt = absurd doubt
in_doubt x (Some e) doubt = doubt

-- Images.

-- whether it is down is not of the images
opens_down : (j : JournalState) (s : State) (r : Option Record) (image : List ℕ) → Opens j s r image → Opens (record j { down = true }) s r image
opens_down j s None image opens = opens
opens_down j s (Some r) image opens = opens

module _ (d e : View) (w x : StoreState) (session : Option one_end.State) (cs : List ℕ) (os : List Bool) (entry : Option Entry) (b : Beside) where
  abbrev m : ManagerState
  m = seen w session cs os

  abbrev o : Outcome (Result (Unit {0}) WriteFault)
  o = write_of (manager_of m) entry b

  -- It went well.

  condition_stays : stores.IsUp w → stores.IsUp x → condition_of x ≡ condition_of w
  condition_stays up still = up_condition x still ∙ sym (up_condition w up)

  pub written_manager : stores.IsUp w → stores.IsUp x → x.state ≡ written w.state entry b → IsValidManager (succeeded (manager_of m) o)
      → manager_of (seen x session cs os) ≡ succeeded (manager_of m) o
  written_manager up still state valid =
      let s = written w.state entry b in
      ap (λ (t : State). record {
        state = t;
        rest = record { session = session; cursors = grown 0 (length t.outs) cs; owes = grown false (length t.ins) os };
        condition = condition_of x;
      }) state
      ∙ ap (λ (c : Condition). record {
        state = s;
        rest = record { session = session; cursors = grown 0 (length s.outs) cs; owes = grown false (length s.ins) os };
        condition = c;
      }) (condition_stays up still)
      ∙ ap (λ (ns : List ℕ). record {
        state = s;
        rest = record { session = session; cursors = ns; owes = grown false (length s.ins) os };
        condition = condition_of w;
      }) (sym (grown_again 0 (length w.state.outs) (length s.outs) cs (no_more 0 (length w.state.outs) (length s.outs) cs valid.cursors)))
      ∙ ap (λ (bs : List Bool). record {
        state = s;
        rest = record { session = session; cursors = grown 0 (length s.outs) (grown 0 (length w.state.outs) cs); owes = bs };
        condition = condition_of w;
      }) (sym (grown_again false (length w.state.ins) (length s.ins) os (no_more false (length w.state.ins) (length s.ins) os valid.owes)))

  pub written_valid : stores.IsUp w → stores.IsUp x → x.state ≡ written w.state entry b → IsValidManager (succeeded (manager_of m) o)
      → IsValidManager (manager_of (seen x session cs os))
  written_valid up still state valid = subst IsValidManager (sym (written_manager up still state valid)) valid

  pub written_call : stores.IsUp w → IfSome entry (CanWrite w.state) → IsValidManager (succeeded (manager_of m) o) → IsStored d e w x entry b
      → IsCall fault.Memory fault.DiskFault d e m (seen x session cs os) o (Ok tt)
  written_call up can valid stored = record {
    ends = inl (
      refl,
      record {
        manager = written_manager up stored.up stored.state valid;
        lines = stored.lines;
        count = stored.count ∙ ap (λ k. w.journal.count + k) (count_same w.state entry can);
        guid = stored.guid;
      },
    );
    on = λ on still. stored.on;
    settled = λ on settled still. stored.settled settled;
    wrote = stored.wrote;
    moments = λ on settled. stored.moments settled;
    doubt = λ on settled not_up. absurd (not_up stored.up);
    rose = λ same. absurd (let none : ⊥ = cc in none);
    stayed = λ not. stored.stayed;
    switch = stored.switch;
  }

  -- Memory was wanting.

  same_up : stores.IsUp w → IsSameStore w x → stores.IsUp x
  same_up up same = ap (λ (j : JournalState). j.down) same.journal ∙ up

  pub same_manager : stores.IsUp w → IsSameStore w x → manager_of (seen x session cs os) ≡ manager_of m
  same_manager up same =
      ap (λ (t : State). record {
        state = t;
        rest = record { session = session; cursors = grown 0 (length t.outs) cs; owes = grown false (length t.ins) os };
        condition = condition_of x;
      }) same.state
      ∙ ap (λ (c : Condition). record {
        state = w.state;
        rest = record { session = session; cursors = grown 0 (length w.state.outs) cs; owes = grown false (length w.state.ins) os };
        condition = c;
      }) (condition_stays up (same_up up same))

  pub same_valid : stores.IsUp w → IsSameStore w x → IsValidManager (manager_of m) → IsValidManager (manager_of (seen x session cs os))
  same_valid up same valid = subst IsValidManager (sym (same_manager up same)) valid

  pub same_call : stores.IsUp w → IsSameStore w x → Lawful d → IsCall fault.Memory fault.DiskFault d d m (seen x session cs os) o (Err fault.Memory)
  same_call up same law = record {
    ends = inr (inl (refl, record { manager = same_manager up same; store = same }));
    on = λ on still. subst (λ (j : JournalState). IsOn d j x.state) (sym same.journal)
        (subst (λ (s : State). IsOn d w.journal s) (sym same.state) on);
    settled = λ on settled still. settled;
    wrote = writes_nothing d w.journal x.journal x.entry (change_in entry) law (ap (λ (j : JournalState). j.count) same.journal);
    moments = λ on settled. quiet_opens d w.journal w.state (change_in entry) law on settled;
    doubt = λ on settled not_up. absurd (not_up (same_up up same));
    rose = λ wrong. absurd (let none : ⊥ = cc in none);
    stayed = λ not. refl;
    switch = refl;
  }

  -- The disk failed.

  pub broken_manager : IsBroken d e w x entry → manager_of (seen x None [] []) ≡ failed (manager_of m) o
  broken_manager broken =
      let down = ap (λ (j : JournalState). j.down) broken.journal in
      ap (λ (t : State). record {
        state = t;
        rest = record { session = None; cursors = grown 0 (length t.outs) []; owes = grown false (length t.ins) [] };
        condition = condition_of x;
      }) broken.state
      ∙ ap (λ (c : Condition). record {
        state = w.state;
        rest = rest_for w.state no_rest;
        condition = c;
      }) (down_condition x down ∙ ap (λ (r : Option Record). Down r) (in_doubt x entry broken.doubt))

  pub broken_valid : IsBroken d e w x entry → IsValidManager (failed (manager_of m) o) → IsValidManager (manager_of (seen x None [] []))
  broken_valid broken valid = subst IsValidManager (sym (broken_manager broken)) valid

  still_down : IsBroken d e w x entry → x.journal.down ≡ false → ⊥
  still_down broken up = let down = ap (λ (j : JournalState). j.down) broken.journal in let none : ⊥ = cc in none

  left_open : IsBroken d e w x entry → IsSettled d → Each e.leaves (Opens x.journal x.state (record_of x.entry))
  left_open broken settled =
      subst (λ (j : JournalState). Each e.leaves (Opens j x.state (record_of x.entry))) (sym broken.journal)
      (subst (λ (s : State). Each e.leaves (Opens (record w.journal { down = true }) s (record_of x.entry))) (sym broken.state)
      (subst (λ (r : Option Record). Each e.leaves (Opens (record w.journal { down = true }) w.state r)) (sym (in_doubt x entry broken.doubt))
      (λ c left. opens_down w.journal w.state (change_in entry) c ((broken.moments settled).now c left))))

  pub broken_call : IfSome entry (CanWrite w.state) → IsBroken d e w x entry
      → IsCall fault.Memory fault.DiskFault d e m (seen x None [] []) o (Err fault.DiskFault)
  broken_call can broken = record {
    ends = inr (inr (
      refl,
      record {
        entry = is_there w.state x entry can broken.doubt;
        manager = broken_manager broken;
        lines = broken.lines;
        count = ap (λ (j : JournalState). j.count) broken.journal;
        guid = ap (λ (j : JournalState). j.guid) broken.journal;
      },
    ));
    on = λ on still. absurd (still_down broken still);
    settled = λ on settled still. absurd (still_down broken still);
    wrote = broken.wrote;
    moments = λ on settled. broken.moments settled;
    doubt = λ on settled not_up. left_open broken settled;
    rose = λ same. broken.rose;
    stayed = λ not. absurd (not refl);
    switch = broken.switch;
  }

  -- The same of a manager that is these parts, and is ready.

  pub ok_call : (whole : ManagerState) → m ≡ whole → IsReady d whole entry b → IsStored d e w x entry b
      → IsCall fault.Memory fault.DiskFault d e whole (seen x session cs os) (write_of (manager_of whole) entry b) (Ok tt)
  ok_call whole is ready stored = let mine = subst (λ (k : ManagerState). IsReady d k entry b) (sym is) ready in
      subst (λ (k : ManagerState). IsCall fault.Memory fault.DiskFault d e k (seen x session cs os) (write_of (manager_of k) entry b) (Ok tt)) is
      (written_call mine.up mine.can mine.valid.succeeds stored)

  pub ok_valid : (whole : ManagerState) → m ≡ whole → IsReady d whole entry b → stores.IsUp x → x.state ≡ written w.state entry b
      → IsValidManager (manager_of (seen x session cs os))
  ok_valid whole is ready up state = let mine = subst (λ (k : ManagerState). IsReady d k entry b) (sym is) ready in
      written_valid mine.up up state mine.valid.succeeds

  pub memory_valid : (whole : ManagerState) → m ≡ whole → IsReady d whole entry b → IsSameStore w x → IsValidManager (manager_of m)
      → IsValidManager (manager_of (seen x session cs os))
  memory_valid whole is ready same valid = let mine = subst (λ (k : ManagerState). IsReady d k entry b) (sym is) ready in same_valid mine.up same valid

  pub fault_call : (whole : ManagerState) → m ≡ whole → IsReady d whole entry b → IsBroken d e w x entry
      → IsCall fault.Memory fault.DiskFault d e whole (seen x None [] []) (write_of (manager_of whole) entry b) (Err fault.DiskFault)
  fault_call whole is ready broken = let mine = subst (λ (k : ManagerState). IsReady d k entry b) (sym is) ready in
      subst (λ (k : ManagerState). IsCall fault.Memory fault.DiskFault d e k (seen x None [] []) (write_of (manager_of k) entry b) (Err fault.DiskFault)) is
      (broken_call mine.can broken)

  pub fault_valid : (whole : ManagerState) → m ≡ whole → IsReady d whole entry b → IsBroken d e w x entry → IsValidManager (manager_of (seen x None [] []))
  fault_valid whole is ready broken = let mine = subst (λ (k : ManagerState). IsReady d k entry b) (sym is) ready in broken_valid broken mine.valid.fails

-- where memory was wanting the disk was not called
pub memory_call : {K : Type 0} (view : K → View) (before after : K) (w x : StoreState) (session : Option one_end.State) (cs : List ℕ) (os : List Bool) (entry : Option Entry)
    (b : Beside) (whole : ManagerState) → Lawful (view before) → seen w session cs os ≡ whole → IsReady (view before) whole entry b → (after ≡ before) × IsSameStore w x
    → IsCall fault.Memory fault.DiskFault (view before) (view after) whole (seen x session cs os) (write_of (manager_of whole) entry b) (Err fault.Memory)
memory_call {K} view before after w x session cs os entry b whole law is ready same =
    let mine = subst (λ (k : ManagerState). IsReady (view before) k entry b) (sym is) ready in
    subst (λ (k : K). IsCall fault.Memory fault.DiskFault (view before) (view k) whole (seen x session cs os) (write_of (manager_of whole) entry b) (Err fault.Memory)) (sym same.0)
    (subst (λ (k : ManagerState). IsCall fault.Memory fault.DiskFault (view before) (view before) k (seen x session cs os) (write_of (manager_of k) entry b) (Err fault.Memory)) is
    (same_call (view before) (view before) w x session cs os entry b mine.up same.1 law))

-- the disk failed
pub cause_rose : (before after : ℕ) (r : Result (Unit {0}) WriteFault) → r ≡ Err fault.DiskFault → FaultsAsSaid write_failed before after r → Rose before after
cause_rose before after r e cause = subst (λ (r : Result (Unit {0}) WriteFault). FaultsAsSaid write_failed before after r) e cause
