-- Steps of a pump that call no disk.
use Rattle.std.proofs.Common.{arith, inl, inr, refl, sym, ap, subst, ◌∙◌}
use Rattle.std.specs.Option.{option_map_or}
use Rattle.std.specs.Prelude.{◌+◌, ◌≡◌, ◌⊎◌, Bool, Err, List, None, Ok, Option, Result, Some, false, length, ℕ}
use Rattle.mqb_outside.specs.Disk.{Lawful, View}
use Rattle.mqb_outside.specs.Images.{Each}
use Rattle.mqb_packet.specs.declared.packet.Packet.{Packet}
use Rattle.mqb_session.specs.State as one_end
use Rattle.mqb_model.specs.calls.pump.Pump.{sending_one}
use Rattle.mqb_model.specs.declared.faults.PumpFault.TheVariants as fault
use Rattle.mqb_model.specs.managers.Manager.{Manager, rest_for}
use Rattle.mqb_model.specs.managers.Outcomes.{Outcome, answering, succeeded}
use Rattle.mqb_model.specs.managers.Valid.{IsValidManager}
use Rattle.mqb_model.specs.records.Applying.{lines_of}
use Rattle.mqb_model.specs.records.Reading.{record_of}
use Rattle.mqb_model.specs.records.Record.{Record}
use Rattle.mqb_store.specs.States.{IsSameStore, IsStoredOn, StoreState}
use Rattle.mqb_store.specs.mqb_store_laws.lemmas.Carrying.{quiet_opens}
use Rattle.mqb_store.specs.mqb_store_laws.lemmas.Writing.{writes_nothing}
use Rattle.mqb_store.specs.mqb_store_laws.Images.{Opens}
use Rattle.mqb_manager.specs.Calls.{Ends, IsCall}
use Rattle.mqb_manager.specs.Quiet.{IsQuiet}
use Rattle.mqb_manager.specs.States.{ManagerState, manager_of}
use Rattle.mqb_choosing.proofs.Rests.{grown_whole}

abbrev fault_or : {V E : Type 0} → Result V E → E → E
fault_or (Err e) d = e
fault_or (Ok v) d = d

pub one_fault : {V E : Type 0} (a b : E) → ◌≡◌ {A = Result V E} (Err a) (Err b) → a ≡ b
one_fault a b same = ap (λ r. fault_or r b) same

same_count : {a b c : ℕ} → a ≡ b → c ≡ 0 → a ≡ b + c
same_count same none = omega (arith, same, none)

module _ {V E : Type 0} (memory broken : E) (d : View) (m n : ManagerState) (o : Outcome (Result V E)) (r : Result V E) where
  ends : n.store ≡ m.store → o.entry ≡ None → (((r ≡ o.answer) × (manager_of n ≡ succeeded (manager_of m) o)) ⊎ ((r ≡ Err memory) × (n ≡ m)))
      → Ends memory broken m n o r
  ends store entry (inl h) = inl (
    h.0,
    record {
      manager = h.1;
      lines = ap (λ (w : StoreState). w.lines) store ∙ sym (ap (λ (e : Option Record). option_map_or (lines_of m.store.state) e m.store.lines) entry);
      count = same_count (ap (λ (w : StoreState). w.journal.count) store) (ap (λ (e : Option Record). option_map_or (λ _. 1) e 0) entry);
      guid = ap (λ (w : StoreState). w.journal.guid) store;
    },
  )
  ends store entry (inr h) = inr (inl (
    h.0,
    record {
      manager = ap manager_of h.1;
      store = subst (λ (w : StoreState). IsSameStore m.store w) (sym store) (record { state = refl; journal = refl; lines = refl });
    },
  ))

  never : (memory ≡ broken → ⊥) → (o.answer ≡ Err broken → ⊥) → (((r ≡ o.answer) × (manager_of n ≡ succeeded (manager_of m) o)) ⊎ ((r ≡ Err memory) × (n ≡ m)))
      → r ≡ Err broken → ⊥
  never differ fine (inl h) same = fine (sym h.0 ∙ same)
  never differ fine (inr h) same = differ (one_fault memory broken (sym h.0 ∙ same))

  -- it is a call
  pub quiet_call : Lawful d → (memory ≡ broken → ⊥) → (o.answer ≡ Err broken → ⊥) → IsQuiet memory m n o r → IsCall memory broken d d m n o r
  quiet_call law differ fine quiet = record {
    ends = ends quiet.store quiet.entry quiet.ends;
    on = λ on still. subst (λ (w : StoreState). IsStoredOn d w) (sym quiet.store) on;
    settled = λ on settled still. settled;
    wrote = writes_nothing d m.store.journal n.store.journal n.store.entry o.entry law (ap (λ (w : StoreState). w.journal.count) quiet.store);
    moments = λ on settled. quiet_opens d m.store.journal m.store.state o.entry law on settled;
    doubt = λ on settled not_up. subst (λ (w : StoreState). Each d.leaves (Opens w.journal w.state (record_of w.entry))) (sym quiet.store)
        (quiet_opens d m.store.journal m.store.state (record_of m.store.entry) law on settled).now;
    rose = λ same. absurd (never differ fine quiet.ends same);
    stayed = λ not. refl;
    switch = refl;
  }

-- The cases.

-- what is known of the connection is padded already
pub padded : (m : Manager) (session : Option one_end.State) → IsValidManager m
    → record m { rest = record m.rest { session = session } } ≡ record m { rest = rest_for m.state (record m.rest { session = session }) }
padded m session valid = sym (
    ap (λ (ns : List ℕ). record m { rest = record m.rest { session = session; cursors = ns; owes = (rest_for m.state m.rest).owes } }) (grown_whole 0 (length m.state.outs) m.rest.cursors valid.cursors)
    ∙ ap (λ (bs : List Bool). record m { rest = record m.rest { session = session; owes = bs } }) (grown_whole false (length m.state.ins) m.rest.owes valid.owes))

-- nothing changes
pub quiet_answer : {V E : Type 0} (memory : E) (m : ManagerState) (answer : Result V E) → IsValidManager (manager_of m)
    → IsQuiet memory m m (answering (manager_of m) answer) answer
quiet_answer memory m answer valid = record { store = refl; entry = refl; ends = inl (refl, padded (manager_of m) m.session valid) }
