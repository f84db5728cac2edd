-- What goes once the marks were recorded.
use Rattle.std.proofs.Common.{inl, inr, refl, sym, ap, subst, ◌∙◌}
use Rattle.std.specs.Option.{option_map_or}
use Rattle.std.specs.Prelude.{◌+◌, ◌==◌, ◌≡◌, Bool, Err, IsSome, List, None, Ok, Option, Result, Some, false, fold, if◌then◌else◌, length, map, true, ℕ}
use Rattle.mqb_base.specs.declared.heads.SessionHead.{SessionHead}
use Rattle.mqb_base.specs.declared.ids.Guid.{Guid}
use Rattle.mqb_outside.specs.Disk.{LeavesOnly, View}
use Rattle.mqb_entries.specs.declared.entry.Entry.{Entry}
use Rattle.mqb_entries.specs.declared.entry.Entry.TheVariants as form
use Rattle.mqb_entries.specs.declared.members.Mark.{Mark}
use Rattle.mqb_outside.specs.Faults.{Rose}
use Rattle.mqb_session.specs.State as one_end
use Rattle.mqb_choosing.specs.Going.{Going, known}
use Rattle.mqb_model.specs.Lists.{grown}
use Rattle.mqb_model.specs.calls.pump.Candidates.{Candidate}
use Rattle.mqb_model.specs.calls.pump.Choosing.{session_behind, with_heads}
use Rattle.mqb_model.specs.calls.pump.Pump.{PumpOutcome, marks_for, offered_entry, origin_of, sending_all, settled}
use Rattle.mqb_model.specs.declared.faults.PumpFault.{PumpFault}
use Rattle.mqb_model.specs.declared.faults.PumpFault.TheVariants as fault
use Rattle.mqb_model.specs.laws.Durable as model_laws
use Rattle.mqb_model.specs.managers.Beside.{Origin, noted}
use Rattle.mqb_model.specs.managers.Beside as beside
use Rattle.mqb_model.specs.managers.Manager.{Condition, Manager, Rest, is_down}
use Rattle.mqb_model.specs.managers.Outcomes.{failed_under, recorded, state_after, succeeded}
use Rattle.mqb_model.specs.records.Applying.{lines_of}
use Rattle.mqb_model.specs.records.Record as entry
use Rattle.mqb_model.specs.records.Record.{Record}
use Rattle.mqb_model.specs.state.Durable.{durable}
use Rattle.mqb_model.specs.state.State.{State}
use Rattle.mqb_store.specs.Writing.{change_in}
use Rattle.mqb_store.specs.declared.faults.WriteFault.{WriteFault}
use Rattle.mqb_store.specs.declared.faults.WriteFault.TheVariants as write
use Rattle.mqb_store.specs.mqb_store_laws.lemmas.Carrying.{on_beside}
use Rattle.mqb_store.specs.mqb_store_laws.Images.{Opens}
use Rattle.mqb_store.specs.mqb_store_laws.Writing.{WritesOne}
use Rattle.mqb_manager.specs.Calls.{Ends, IsCall, Succeeds}
use Rattle.mqb_manager.specs.Pumps.{pump_fault, sent_as, with_sent}
use Rattle.mqb_choosing.specs.Plans.{offered_form}
use Rattle.mqb_manager.specs.States.{IsUp, ManagerState, condition_of, manager_of}
use Rattle.mqb_manager.specs.Writing.{write_of}
use Rattle.mqb_manager.proofs.Conditions.{down_is, up_from}

-- The marks' entry is their record.
pub form_is : (s : State) (cs : List Candidate) (marks : List Mark) → marks ≡ marks_for s cs → change_in (offered_form marks) ≡ offered_entry s cs
form_is s cs marks is = ap (λ (ms : List Mark). change_in (offered_form ms)) is ∙ at (length (marks_for s cs) == 0)
  where
    at : (b : Bool) → change_in (if b then None else Some (form.Offered (marks_for s cs))) ≡ (if b then None else Some (entry.Offered (marks_for s cs)))
    at true = refl
    at false = refl

module _ (d e : View) (m n : ManagerState) (form : Option Entry) where
  abbrev M : Manager
  M = manager_of m

  abbrev Writes : Result (Unit {0}) WriteFault → Type 0
  Writes w = IsCall write.Memory write.DiskFault d e m n (write_of M form beside.Nothing) w

  -- They were recorded.

  went : Ends write.Memory write.DiskFault m n (write_of M form beside.Nothing) (Ok tt) → Succeeds m n (write_of M form beside.Nothing)
  went (inl h) = h.1
  went (inr (inl h)) = absurd (let wrong = h.0 in let none : ⊥ = cc in none)
  went (inr (inr h)) = absurd (let wrong = h.0 in let none : ⊥ = cc in none)

  pub state_is : Writes (Ok tt) → n.store.state ≡ recorded m.store.state (change_in form)
  state_is call = ap (λ (x : Manager). x.state) (went call.ends).manager

  condition_is : Writes (Ok tt) → condition_of n.store ≡ condition_of m.store
  condition_is call = ap (λ (x : Manager). x.condition) (went call.ends).manager

  still_up : IsUp m → Writes (Ok tt) → IsUp n
  still_up up call = up_from n (ap is_down (went call.ends).manager ∙ down_is m ∙ up)

  module _ (now : ℕ) (session : one_end.State) (k : ℕ) (to : Guid) (cs : List Candidate) (g : Going) (cursors : List ℕ) (owes : List Bool) where
    abbrev o : PumpOutcome
    o = sending_all M now session k to cs

    abbrev N : ManagerState
    N = with_sent n k g cursors owes

    abbrev sent : List (Origin × SessionHead)
    sent = map origin_of (with_heads session cs)

    abbrev T : State
    T = state_after M o

    abbrev shaped : State → one_end.State → Rest → Condition → Manager
    shaped t session rest c = record {
      state = t;
      rest = record { session = Some session; cursors = grown 0 (length t.outs) rest.cursors; owes = grown false (length t.ins) rest.owes };
      condition = c;
    }

    state_then : Writes (Ok tt) → change_in form ≡ offered_entry m.store.state cs → map sent_as g.choices ≡ sent
        → fold (noted k) n.store.state (map sent_as g.choices) ≡ T
    state_then call is same = ap (λ (given : List (Origin × SessionHead)). fold (noted k) n.store.state given) same
        ∙ ap (λ (t : State). fold (noted k) t sent) (state_is call ∙ ap (recorded m.store.state) is)

    pub sent_manager : Writes (Ok tt) → change_in form ≡ offered_entry m.store.state cs → map sent_as g.choices ≡ sent
        → g.session ≡ session_behind session cs → known session cursors owes ≡ settled M.rest cs → manager_of N ≡ succeeded M o
    sent_manager call is same behind rest =
        ap (λ (t : State). shaped t g.session (known session cursors owes) (condition_of n.store)) (state_then call is same)
        ∙ ap (λ (x : one_end.State). shaped T x (known session cursors owes) (condition_of n.store)) behind
        ∙ ap (λ (r : Rest). shaped T (session_behind session cs) r (condition_of n.store)) rest
        ∙ ap (λ (c : Condition). shaped T (session_behind session cs) (settled M.rest cs) c) (condition_is call)

    pub sent_call : IsUp m → Writes (Ok tt) → change_in form ≡ offered_entry m.store.state cs → map sent_as g.choices ≡ sent
        → g.session ≡ session_behind session cs → known session cursors owes ≡ settled M.rest cs → model_laws.LeavesStore M o
        → IsCall fault.Memory fault.DiskFault d e m N o (Ok (length cs))
    sent_call up call is same behind rest stored = record {
      ends = inl (
        refl,
        record {
          manager = sent_manager call is same behind rest;
          lines = h.lines ∙ ap (λ (r : Option Record). option_map_or (lines_of m.store.state) r m.store.lines) is;
          count = h.count ∙ ap (λ (r : Option Record). m.store.journal.count + option_map_or (λ _. 1) r 0) is;
          guid = h.guid;
        },
      );
      on = λ on still. on_beside e n.store.journal n.store.state (fold (noted k) n.store.state (map sent_as g.choices)) durably (call.on on (still_up up call));
      settled = λ on settled still. call.settled on settled (still_up up call);
      wrote = subst (λ (r : Option Record). WritesOne d e m.store.journal n.store.journal n.store.entry r) is call.wrote;
      moments = λ on settled. subst (λ (r : Option Record). LeavesOnly d e (Opens m.store.journal m.store.state r)) is (call.moments on settled);
      doubt = λ on settled not_up. absurd (not_up (still_up up call));
      rose = λ wrong. absurd (let none : ⊥ = cc in none);
      stayed = λ not. call.stayed (λ wrong. let none : ⊥ = cc in none);
      switch = call.switch;
    }
      where
        h : Succeeds m n (write_of M form beside.Nothing)
        h = went call.ends

        durably : durable (fold (noted k) n.store.state (map sent_as g.choices)) ≡ durable n.store.state
        durably = ap durable (state_then call is same) ∙ stored ∙ sym (ap durable (state_is call ∙ ap (recorded m.store.state) is))

  -- They were not.

  unsent_ends : (o : PumpOutcome) (w : WriteFault) → change_in form ≡ o.entry → Ends write.Memory write.DiskFault m n (write_of M form beside.Nothing) (Err w)
      → Ends fault.Memory fault.DiskFault m n o (Err (pump_fault w))
  unsent_ends o w is (inl h) = absurd (let wrong = h.0 in let none : ⊥ = cc in none)
  unsent_ends o write.Memory is (inr (inl h)) = inr (inl (refl, h.1))
  unsent_ends o write.Memory is (inr (inr h)) = absurd (let wrong = h.0 in let none : ⊥ = cc in none)
  unsent_ends o write.DiskFault is (inr (inl h)) = absurd (let wrong = h.0 in let none : ⊥ = cc in none)
  unsent_ends o write.DiskFault is (inr (inr h)) = inr (inr (
    refl,
    record {
      entry = subst IsSome is h.1.entry;
      manager = h.1.manager ∙ ap (failed_under M) is;
      lines = h.1.lines;
      count = h.1.count;
      guid = h.1.guid;
    },
  ))

  unsent_rose : (w : WriteFault) → (◌≡◌ {A = Result (Unit {0}) WriteFault} (Err w) (Err write.DiskFault) → Rose d.faults e.faults) → ◌≡◌ {A = Result ℕ PumpFault} (Err (pump_fault w)) (Err fault.DiskFault) → Rose d.faults e.faults
  unsent_rose write.Memory rose same = absurd (let none : ⊥ = cc in none)
  unsent_rose write.DiskFault rose same = rose refl

  unsent_stayed : (w : WriteFault) → ((◌≡◌ {A = Result (Unit {0}) WriteFault} (Err w) (Err write.DiskFault) → ⊥) → e.faults ≡ d.faults) → (◌≡◌ {A = Result ℕ PumpFault} (Err (pump_fault w)) (Err fault.DiskFault) → ⊥) → e.faults ≡ d.faults
  unsent_stayed write.Memory stayed not = stayed (λ same. let none : ⊥ = cc in none)
  unsent_stayed write.DiskFault stayed not = absurd (not refl)

  pub unsent_call : (o : PumpOutcome) (w : WriteFault) → change_in form ≡ o.entry → Writes (Err w) → IsCall fault.Memory fault.DiskFault d e m n o (Err (pump_fault w))
  unsent_call o w is call = record {
    ends = unsent_ends o w is call.ends;
    on = call.on;
    settled = call.settled;
    wrote = subst (λ (r : Option Record). WritesOne d e m.store.journal n.store.journal n.store.entry r) is call.wrote;
    moments = λ on settled. subst (λ (r : Option Record). LeavesOnly d e (Opens m.store.journal m.store.state r)) is (call.moments on settled);
    doubt = call.doubt;
    rose = unsent_rose w call.rose;
    stayed = unsent_stayed w call.stayed;
    switch = call.switch;
  }
