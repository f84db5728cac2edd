-- The calls take, purge and tick.
use Rattle.std.proofs.Common.{ap}
use Rattle.std.specs.Option.{option_map_or}
use Rattle.std.specs.Prelude.{◌≡◌, if◌then◌else◌, Bool, Err, None, OnErr, Option, Result, Some, ℕ, false, true}
use Rattle.mqb_base.specs.declared.message.Lane.{Lane}
use Rattle.mqb_base.specs.declared.message.Lane.TheVariants as lane
use Rattle.mqb_base.specs.declared.message.Message.{Message}
use Rattle.mqb_base.specs.declared.queues.EntryPlace.{EntryPlace}
use Rattle.mqb_base.specs.declared.queues.Place.{Place}
use Rattle.mqb_outside.specs.Disk.{Lawful, View}
use Rattle.mqb_model.specs.calls.Purge.{purge, purge_at, purge_refusal, purging}
use Rattle.mqb_model.specs.calls.SetRoll.{store_refusal}
use Rattle.mqb_model.specs.calls.Take.{first_in, take_at, take_message, take_position, take_refusal, taking}
use Rattle.mqb_model.specs.calls.Tick.{tick, ticking}
use Rattle.mqb_model.specs.declared.faults.PurgeFault.{PurgeFault}
use Rattle.mqb_model.specs.declared.faults.PurgeFault.TheVariants as purge_fault
use Rattle.mqb_model.specs.declared.faults.StoreFault.TheVariants as store_fault
use Rattle.mqb_model.specs.declared.faults.TakeFault.{TakeFault}
use Rattle.mqb_model.specs.declared.faults.TakeFault.TheVariants as take_fault
use Rattle.mqb_model.specs.managers.Manager.{Manager, is_down}
use Rattle.mqb_model.specs.managers.Outcomes.{Outcome, answering, unless}
use Rattle.mqb_model.specs.managers.Valid.{IsValidManager}
use Rattle.mqb_model.specs.rules.Takes.{message_at}
use Rattle.mqb_model.specs.state.State.{State}
use Rattle.mqb_plans.specs.Plans.{Refuses, RefusesTake}
use Rattle.mqb_queue.specs.Lists.{Lists}
use Rattle.mqb_queue.specs.Places.{lists_at, place_named}
use Rattle.mqb_queue.specs.declared.first.Position.{Position}
use Rattle.mqb_manager.specs.Calls.{IsCall}
use Rattle.mqb_manager.specs.States.{ManagerState, manager_of}
use Rattle.mqb_manager.proofs.Calls.{first_refused, first_unrefused, refused_call, unless_some, unmade_call}
use Rattle.mqb_manager.proofs.Planned.{Keeps, planned_refused}

-- The manager is down.

pub take_down : (d : View) (m : ManagerState) (place : Place) (now : ℕ) → Lawful d → IsValidManager (manager_of m) → is_down (manager_of m) ≡ true
    → IsCall take_fault.Memory take_fault.DiskFault d d m m (take_message (manager_of m) place now) (Err take_fault.Down)
take_down d m place now law valid down = let k = manager_of m in
    refused_call take_fault.Memory take_fault.DiskFault take_fault.Down d m (take_message k place now) law valid
    (unless_some k (take_refusal k) take_fault.Down
    (option_map_or (take_at k now) (place_named k.state.places.queues place) (answering k (Err take_fault.NoQueue)))
    (ap (λ (b : Bool). if b then Some take_fault.Down else None) down))
    (λ same. let none : ⊥ = cc in none)

pub take_down_first : (m : Manager) (place : Place) (now : ℕ) → is_down m ≡ true
    → OnErr (take_message m place now).answer (Err take_fault.Down ≡ (take_message m place now).answer)
take_down_first m place now down = first_refused take_fault.Down m (take_message m place now)
    (unless_some m (take_refusal m) take_fault.Down
    (option_map_or (take_at m now) (place_named m.state.places.queues place) (answering m (Err take_fault.NoQueue)))
    (ap (λ (b : Bool). if b then Some take_fault.Down else None) down))

pub purge_down : (d : View) (m : ManagerState) (place : Place) (now : ℕ) → Lawful d → IsValidManager (manager_of m) → is_down (manager_of m) ≡ true
    → IsCall purge_fault.Memory purge_fault.DiskFault d d m m (purge (manager_of m) place now) (Err purge_fault.Down)
purge_down d m place now law valid down = let k = manager_of m in
    refused_call purge_fault.Memory purge_fault.DiskFault purge_fault.Down d m (purge k place now) law valid
    (unless_some k (purge_refusal k) purge_fault.Down
    (option_map_or (purge_at k now) (place_named k.state.places.queues place) (answering k (Err purge_fault.NoQueue)))
    (ap (λ (b : Bool). if b then Some purge_fault.Down else None) down))
    (λ same. let none : ⊥ = cc in none)

pub purge_down_first : (m : Manager) (place : Place) (now : ℕ) → is_down m ≡ true
    → OnErr (purge m place now).answer (Err purge_fault.Down ≡ (purge m place now).answer)
purge_down_first m place now down = first_refused purge_fault.Down m (purge m place now)
    (unless_some m (purge_refusal m) purge_fault.Down
    (option_map_or (purge_at m now) (place_named m.state.places.queues place) (answering m (Err purge_fault.NoQueue)))
    (ap (λ (b : Bool). if b then Some purge_fault.Down else None) down))

pub tick_down : (d : View) (m : ManagerState) (now : ℕ) → Lawful d → IsValidManager (manager_of m) → is_down (manager_of m) ≡ true
    → IsCall store_fault.Memory store_fault.DiskFault d d m m (tick (manager_of m) now) (Err store_fault.Down)
tick_down d m now law valid down = let k = manager_of m in
    refused_call store_fault.Memory store_fault.DiskFault store_fault.Down d m (tick k now) law valid
    (unless_some k (store_refusal k) store_fault.Down (ticking k now) (ap (λ (b : Bool). if b then Some store_fault.Down else None) down))
    (λ same. let none : ⊥ = cc in none)

-- The definitions do not say that the disk failed.

taking_unbroken : (m : Manager) (at : EntryPlace) (now : ℕ) (of : Lane) (k : ℕ) (message : Message)
    → (taking m at now of k message).answer ≡ Err take_fault.DiskFault → ⊥
taking_unbroken m at now lane.Durable k message e = let none : ⊥ = cc in none
taking_unbroken m at now lane.Express k message e = let none : ⊥ = cc in none

found_unbroken : (m : Manager) (at : EntryPlace) (now : ℕ) (p : Position) (found : Option Message)
    → (option_map_or (taking m at now p.lane p.index) found (answering m (Err take_fault.QueueEmpty))).answer ≡ Err take_fault.DiskFault → ⊥
found_unbroken m at now p None e = let none : ⊥ = cc in none
found_unbroken m at now p (Some message) e = taking_unbroken m at now p.lane p.index message e

first_unbroken : (m : Manager) (at : EntryPlace) (now : ℕ) (first : Option Position)
    → (option_map_or (take_position m at now) first (answering m (Err take_fault.QueueEmpty))).answer ≡ Err take_fault.DiskFault → ⊥
first_unbroken m at now None e = let none : ⊥ = cc in none
first_unbroken m at now (Some p) e = found_unbroken m at now p (message_at p.lane m.state at p.index) e

place_unbroken : (m : Manager) (now : ℕ) (place : Option EntryPlace)
    → (option_map_or (take_at m now) place (answering m (Err take_fault.NoQueue))).answer ≡ Err take_fault.DiskFault → ⊥
place_unbroken m now None e = let none : ⊥ = cc in none
place_unbroken m now (Some at) e = first_unbroken m at now (first_in m.state at now) e

take_unbroken : (m : Manager) (b : Bool) (o : Outcome (Result Message TakeFault)) → (o.answer ≡ Err take_fault.DiskFault → ⊥)
    → (unless m (if b then Some take_fault.Down else None) o).answer ≡ Err take_fault.DiskFault → ⊥
take_unbroken m true o not e = let none : ⊥ = cc in none
take_unbroken m false o not e = not e

purge_at_unbroken : (m : Manager) (now : ℕ) (at : EntryPlace) (l : Option Lists)
    → (option_map_or (purging m now at) l (answering m (Err purge_fault.NoQueue))).answer ≡ Err purge_fault.DiskFault → ⊥
purge_at_unbroken m now at None e = let none : ⊥ = cc in none
purge_at_unbroken m now at (Some l) e = let none : ⊥ = cc in none

purge_place_unbroken : (m : Manager) (now : ℕ) (place : Option EntryPlace)
    → (option_map_or (purge_at m now) place (answering m (Err purge_fault.NoQueue))).answer ≡ Err purge_fault.DiskFault → ⊥
purge_place_unbroken m now None e = let none : ⊥ = cc in none
purge_place_unbroken m now (Some at) e = purge_at_unbroken m now at (lists_at m.state.places at) e

purge_unbroken : (m : Manager) (b : Bool) (o : Outcome (Result ℕ PurgeFault)) → (o.answer ≡ Err purge_fault.DiskFault → ⊥)
    → (unless m (if b then Some purge_fault.Down else None) o).answer ≡ Err purge_fault.DiskFault → ⊥
purge_unbroken m true o not e = let none : ⊥ = cc in none
purge_unbroken m false o not e = not e

-- It is refused.

pub take_refused : (d : View) (m : ManagerState) (s : State) (place : Place) (now : ℕ) (why : TakeFault) → Lawful d → Keeps s m
    → RefusesTake s (λ m. take_message m place now) why
    → IsCall take_fault.Memory take_fault.DiskFault d d m m (take_message (manager_of m) place now) (Err why)
take_refused d m s place now why law keeps refused = by why refused
  where
    same : (why : TakeFault) → Refuses s (λ m. take_message m place now) why
        → IsCall take_fault.Memory take_fault.DiskFault d d m m (take_message (manager_of m) place now) (Err why)
    same why refused = let k = manager_of m in
        planned_refused take_fault.Memory take_fault.DiskFault why s (λ m. take_message m place now) d m law keeps refused
        (take_unbroken k (is_down k) (option_map_or (take_at k now) (place_named k.state.places.queues place) (answering k (Err take_fault.NoQueue)))
        (place_unbroken k now (place_named k.state.places.queues place)))

    by : (why : TakeFault) → RefusesTake s (λ m. take_message m place now) why
        → IsCall take_fault.Memory take_fault.DiskFault d d m m (take_message (manager_of m) place now) (Err why)
    by take_fault.Memory r = unmade_call take_fault.Memory take_fault.DiskFault d m (take_message (manager_of m) place now) law (λ same. let none : ⊥ = cc in none)
    by why r = same why r

-- Want of memory comes before no refusal.
pub take_first : (s : State) (m : ManagerState) (place : Place) (now : ℕ) (why : TakeFault) → Keeps s m → RefusesTake s (λ m. take_message m place now) why
    → OnErr (take_message (manager_of m) place now).answer (Err why ≡ (take_message (manager_of m) place now).answer)
take_first s m place now why keeps refused = by why refused
  where
    same : (why : TakeFault) → Refuses s (λ m. take_message m place now) why
        → OnErr (take_message (manager_of m) place now).answer (Err why ≡ (take_message (manager_of m) place now).answer)
    same why refused = first_refused why (manager_of m) (take_message (manager_of m) place now) (refused (manager_of m) keeps.kept keeps.up)

    by : (why : TakeFault) → RefusesTake s (λ m. take_message m place now) why
        → OnErr (take_message (manager_of m) place now).answer (Err why ≡ (take_message (manager_of m) place now).answer)
    by take_fault.Memory r = first_unrefused (take_message (manager_of m) place now).answer (Err take_fault.Memory) (r (manager_of m) keeps.kept keeps.up)
    by why r = same why r

pub purge_refused : (d : View) (m : ManagerState) (s : State) (place : Place) (now : ℕ) (why : PurgeFault) → Lawful d → Keeps s m
    → Refuses s (λ m. purge m place now) why
    → IsCall purge_fault.Memory purge_fault.DiskFault d d m m (purge (manager_of m) place now) (Err why)
purge_refused d m s place now why law keeps refused = let k = manager_of m in
    planned_refused purge_fault.Memory purge_fault.DiskFault why s (λ m. purge m place now) d m law keeps refused
    (purge_unbroken k (is_down k) (option_map_or (purge_at k now) (place_named k.state.places.queues place) (answering k (Err purge_fault.NoQueue)))
    (purge_place_unbroken k now (place_named k.state.places.queues place)))
