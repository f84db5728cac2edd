-- The call set_roll.
use Rattle.std.proofs.Common.{refl, ap, arith}
use Rattle.std.proofs.lemmas.Bool.Decides.{nat_tests}
use Rattle.std.specs.Prelude.{◌≡◌, Err, None, Ok, Some, false, if◌then◌else◌, true, ℕ}
use Rattle.mqb_entries.specs.declared.entry.Entry.TheVariants as form
use Rattle.mqb_outside.specs.Disk.{Lawful, View}
use Rattle.mqb_entries.specs.SpelledEntries.{IsFull}
use Rattle.mqb_model.specs.laws.Durable.{CallsLeaveStore}
use Rattle.mqb_model.specs.laws.Fitting.{RecordsFit}
use Rattle.mqb_model.specs.laws.Keeping.{CallsKeepValid}
use Rattle.mqb_model.specs.managers.Valid.{IsValidManager}
use Rattle.mqb_model.specs.records.Applying.{is_roll}
use Rattle.mqb_model.specs.calls.Call as answer
use Rattle.mqb_model.specs.calls.Call.{Set}
use Rattle.mqb_model.specs.calls.SetRoll.{set_roll, store_refusal}
use Rattle.mqb_model.specs.declared.faults.StoreFault.TheVariants as fault
use Rattle.mqb_model.specs.managers.Beside.{Nothing}
use Rattle.mqb_model.specs.managers.Manager.{Manager, is_down}
use Rattle.mqb_model.specs.managers.Outcomes.{recording}
use Rattle.mqb_model.specs.records.Record as entry
use Rattle.mqb_store.specs.Writing.{change_in}
use Rattle.mqb_manager.specs.Writing.{IsReady, outcome_by}
use Rattle.mqb_manager.specs.Calls.{IsCall}
use Rattle.mqb_manager.specs.States.{IsOnDisk, IsUp, ManagerState, manager_of}
use Rattle.mqb_manager.proofs.Calls.{by_request, ready_by, refused_call, unless_none, unless_some}
use Rattle.mqb_manager.proofs.Conditions.{up_from}

not_down : (m : Manager) → is_down m ≡ false → store_refusal m ≡ None
not_down m up = ap (λ b. if b then Some fault.Down else None) up

-- It comes to this.
pub set_roll_is : (m : Manager) (count : ℕ) → is_down m ≡ false → set_roll m count ≡ outcome_by m (change_in (Some (form.Roll count))) Nothing (Ok tt)
set_roll_is m count up = unless_none m (store_refusal m) (recording m (entry.Set (entry.Roll count)) (Ok tt)) (not_down m up)

pub set_roll_refused : (d : View) (m : ManagerState) (count : ℕ) → Lawful d → IsValidManager (manager_of m) → is_down (manager_of m) ≡ true
    → IsCall fault.Memory fault.DiskFault d d m m (set_roll (manager_of m) count) (Err fault.Down)
set_roll_refused d m count law valid down = let k = manager_of m in
    refused_call fault.Memory fault.DiskFault fault.Down d m (set_roll k count) law valid
    (unless_some k (store_refusal k) fault.Down (recording k (entry.Set (entry.Roll count)) (Ok tt)) (ap (λ b. if b then Some fault.Down else None) down))
    (λ same. let none : ⊥ = cc in none)

roll_full : (count : ℕ) → is_roll count ≡ true → IsFull count
roll_full count h = grind (arith, nat_tests)

-- It can be written.
pub set_roll_ready : (d : View) (m : ManagerState) (count : ℕ) → RecordsFit → CallsKeepValid → CallsLeaveStore → IsValidManager (manager_of m)
    → (IsUp m → IsOnDisk d m) → is_down (manager_of m) ≡ false → is_roll count ≡ true → IsReady d m (Some (form.Roll count)) Nothing
set_roll_ready d m count fit keep leave valid on up roll = let k = manager_of m in
    ready_by tt d m (Some (form.Roll count)) Nothing (set_roll k count) (set_roll_is k count up)
    (up_from m up) on (record { put = roll_full count roll; small = omega arith; is_record = refl })
    ((fit k).requests (Set (entry.Roll count)) roll) (by_request k answer.WasSet (set_roll k count) ((keep k valid).requests (Set (entry.Roll count)) roll)) ((leave k valid).requests (Set (entry.Roll count)) tt)
