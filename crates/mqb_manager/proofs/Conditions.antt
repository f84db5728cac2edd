-- Whether a manager is up, and what it knows of its store.
use Rattle.std.proofs.Common.{refl, sym, ap, arith, ◌∙◌}
use Rattle.std.proofs.lemmas.Bool.Decides.{nat_tests}
use Rattle.std.specs.Prelude.{[], ◌&&◌, ◌==◌, ◌≡◌, ◌∷◌, Bool, List, None, Option, Some, cond, false, if◌then◌else◌, length, not, option_and_then, true, ℕ}
use Rattle.mqb_entries.specs.Entries.{entry_of, kind_at}
use Rattle.mqb_model.specs.managers.Manager.{Down, Rest, Up, doubt_of, is_down}
use Rattle.mqb_model.specs.records.Reading.{record_of}
use Rattle.mqb_model.specs.records.Record.{Record}
use Rattle.mqb_model.specs.state.State.{State}
use Rattle.mqb_store.specs.States.{StoreState}
use Rattle.mqb_store.specs.States as stores
use Rattle.mqb_manager.specs.States.{IsUp, ManagerState, condition_of, manager_of}

pub up_condition : (w : StoreState) → stores.IsUp w → condition_of w ≡ Up
up_condition w up = ap (λ b. cond b (Down (record_of w.entry)) Up) up

pub down_condition : (w : StoreState) → w.journal.down ≡ true → condition_of w ≡ Down (record_of w.entry)
down_condition w down = ap (λ b. cond b (Down (record_of w.entry)) Up) down

down_by : (s : State) (rest : Rest) (r : Option Record) (b : Bool) → is_down (record { state = s; rest = rest; condition = cond b (Down r) Up }) ≡ b
down_by s rest r true = refl
down_by s rest r false = refl

-- it is down where its store is
pub down_is : (m : ManagerState) → is_down (manager_of m) ≡ m.store.journal.down
down_is m = down_by m.store.state (record { session = m.session; cursors = m.cursors; owes = m.owes }) (record_of m.store.entry) m.store.journal.down

pub up_from : (m : ManagerState) → is_down (manager_of m) ≡ false → IsUp m
up_from m up = sym (down_is m) ∙ up

-- the first reason does not hold
pub first_not : {E : Type 0} (b : Bool) (why : E) (rest : Option E) → (if b then Some why else rest) ≡ None → b ≡ false
first_not true why rest e = absurd (let none : ⊥ = cc in none)
first_not false why rest e = refl

-- What is in doubt.

-- no bytes are no record
pub nothing_recorded : record_of [] ≡ None
unfolding entry_of kind_at
nothing_recorded = refl

some_bytes : (byte : ℕ) (bytes : List ℕ) → (length (byte ∷ bytes) == 0) ≡ false
some_bytes byte bytes = grind (arith, nat_tests)

doubt_by : (b : Bool) (bytes : List ℕ) → option_and_then record_of (if b && not (length bytes == 0) then Some bytes else None) ≡ doubt_of (cond b (Down (record_of bytes)) Up)
doubt_by true [] = sym nothing_recorded
doubt_by true (byte ∷ bytes) = ap (λ (b : Bool). option_and_then record_of (cond (not b) (Some (byte ∷ bytes)) None)) (some_bytes byte bytes)
doubt_by false bytes = refl

pub doubt_is : (m : ManagerState) (entry : Option (List ℕ)) → entry ≡ (if m.store.journal.down && not (length m.store.entry == 0) then Some m.store.entry else None)
    → option_and_then record_of entry ≡ doubt_of (manager_of m).condition
doubt_is m entry e = ap (option_and_then record_of) e ∙ doubt_by m.store.journal.down m.store.entry
