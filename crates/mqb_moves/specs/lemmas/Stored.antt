-- What is held stays held where the disk is left alone.
use Rattle.std.proofs.Common.{ap, refl, subst, sym, ◌∙◌}
use Rattle.std.specs.Prelude.{◌≡◌, Bool, None, Option, false, length, true}
use Rattle.mqb_outside.specs.Disk.{Unchanged, View}
use Rattle.mqb_journal.specs.States.{JournalState}
use Rattle.mqb_model.specs.laws.Durable.{LeavesStore}
use Rattle.mqb_model.specs.managers.Manager.{Manager, is_down}
use Rattle.mqb_model.specs.managers.Outcomes.{Outcome, recorded}
use Rattle.mqb_model.specs.records.Record.{Record}
use Rattle.mqb_model.specs.state.Durable.{durable}
use Rattle.mqb_network.specs.mqb_store_laws.lemmas.Carrying.{on_beside, on_told}
use Rattle.mqb_network.specs.mqb_store_laws.Images.{IsOn}
use Rattle.mqb_manager.specs.Calls.{Succeeds}
use Rattle.mqb_manager.specs.States.{ManagerState, manager_of}
use Rattle.mqb_moves.specs.Calling.{seat_of}
use Rattle.mqb_moves.specs.Seats.{IsHeldOn, SeatState, seated}
use Rattle.mqb_moves.specs.Holding.{StaysStored}

-- where its contents stay, as when a call of it is armed
pub unchanged_held : (d e : View) (s : SeatState) → Unchanged d e → IsHeldOn d s → IsHeldOn e s
unchanged_held d e s same held = record {
  whole = held.whole;
  on = λ up.
      on_told d e s.manager.store.journal s.manager.store.state (held.on up) same.reads.none_new;
  settled = λ up c left. same.reads.none_lost c (held.settled up c (same.leaves.none_new c left));
  opens = λ down c left. held.opens down c (same.leaves.none_new c left);
}

clash : (b : Bool) → b ≡ true → b ≡ false → ⊥
clash true is not = let none : ⊥ = cc in none
clash false is not = let none : ⊥ = cc in none

-- the disk is held as before then
pub stored_held : (d : View) (s t : SeatState) → StaysStored s t → IsHeldOn d s → IsHeldOn d t
stored_held d s t stays held = at (is_down (seated s)) refl
  where
    at : (b : Bool) → is_down (seated s) ≡ b → IsHeldOn d t
    at true down = subst (IsHeldOn d) (sym (stays.same down)) held
    at false up = record {
      whole = ap (λ (j : JournalState). length j.guid.0) stays.journal ∙ held.whole;
      on = λ _. subst (λ (j : JournalState). IsOn d j t.manager.store.state) (sym stays.journal)
          (on_beside d s.manager.store.journal s.manager.store.state t.manager.store.state
          stays.durable (held.on up));
      settled = λ _. held.settled up;
      opens = λ down. absurd (clash true refl (sym (sym stays.down ∙ down) ∙ up));
    }

-- A call without a record leaves what the store has.
pub quiet_stores : {A : Type 0} (m n : ManagerState) (o : Outcome A) → LeavesStore (manager_of m) o
    → o.entry ≡ None → is_down (manager_of m) ≡ false → Succeeds m n o
    → n.store.journal ≡ m.store.journal → StaysStored (seat_of m) (seat_of n)
quiet_stores m n o leaves none up left journal = record {
  same = λ down. absurd (clash true refl (sym down ∙ up));
  journal = journal;
  durable = ap (λ (k : Manager). durable k.state) left.manager ∙ leaves
      ∙ ap (λ (r : Option Record). durable (recorded m.store.state r)) none;
  down = ap is_down left.manager;
}

-- nothing changed
pub same_stores : (s : SeatState) → StaysStored s s
same_stores s = record { same = λ _. refl; journal = refl; durable = refl; down = refl }
