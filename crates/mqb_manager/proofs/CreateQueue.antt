-- The call create_queue.
use Rattle.std.proofs.Common.{refl, sym, ap, ◌∙◌, arith, length-append}
use Rattle.std.specs.Prelude.{◌++◌, ◌≡◌, ◌≤◌, if◌then◌else◌, Bool, Err, None, Ok, OnErr, Option, Some, ℕ, false, length, nat_le, true}
use Rattle.mqb_base.specs.Names.{name_fault}
use Rattle.mqb_base.specs.declared.ids.Guid.{Guid}
use Rattle.mqb_base.specs.declared.queues.QueuePlan.{QueuePlan}
use Rattle.mqb_entries.specs.Spelled.{spelled_flag, spelled_name, spelled_public}
use Rattle.mqb_entries.specs.SpelledEntries.{spelled}
use Rattle.mqb_entries.specs.declared.entry.Entry.TheVariants as form
use Rattle.mqb_entries.specs.declared.entry.QueueView.{QueueView}
use Rattle.mqb_fields.specs.Writing.{bytes_of}
use Rattle.mqb_model.specs.calls.Call as answer
use Rattle.mqb_model.specs.calls.Call.{CreateQueue}
use Rattle.mqb_model.specs.calls.CreateQueue.{create_queue, create_refusal}
use Rattle.mqb_outside.specs.Disk.{Lawful, View}
use Rattle.mqb_model.specs.declared.faults.CreateFault.{CreateFault}
use Rattle.mqb_model.specs.declared.faults.CreateFault.TheVariants as fault
use Rattle.mqb_model.specs.declared.limits.TheConstants.{MAX_QUEUES, MAX_RECORD}
use Rattle.mqb_model.specs.laws.Durable.{CallsLeaveStore}
use Rattle.mqb_model.specs.laws.Fitting.{RecordsFit}
use Rattle.mqb_model.specs.laws.Keeping.{CallsKeepValid}
use Rattle.mqb_model.specs.managers.Beside.{Nothing}
use Rattle.mqb_model.specs.managers.Manager.{Manager, is_down}
use Rattle.mqb_model.specs.managers.Outcomes.{recording}
use Rattle.mqb_model.specs.managers.Valid.{IsValidManager}
use Rattle.mqb_model.specs.records.Peer.{next_queue, queue_there}
use Rattle.mqb_model.specs.records.Reading.{plan_of}
use Rattle.mqb_model.specs.records.Record as entry
use Rattle.mqb_store.specs.Writing.{change_in}
use Rattle.mqb_manager.specs.Writing.{IsReady, outcome_by}
use Rattle.mqb_manager.specs.Calls.{IsCall}
use Rattle.mqb_manager.specs.States.{IsOnDisk, IsUp, ManagerState, manager_of}
use Rattle.mqb_manager.proofs.Calls.{by_request, first_refused, ready_by, refused_call, unless_none, unless_some}
use Rattle.mqb_manager.proofs.Conditions.{first_not, up_from}
use Rattle.mqb_manager.proofs.AddPeer.{spelled_name_short}

flag_size : (b : Bool) → length (spelled_flag b) ≡ 1
flag_size true = refl
flag_size false = refl

public_size : (guid : Option Guid) → length (spelled_public guid) ≤ 17
public_size None = omega arith
public_size (Some guid) = omega arith

pub queue_size : (v : QueueView) → name_fault v.name ≡ None → length (spelled (form.CreateQueue v)) ≤ MAX_RECORD
queue_size v named =
    let name = spelled_name_short v.name named in
    let public = public_size v.public in
    let transactional = flag_size v.transactional in
    let journal = flag_size v.journal in
    let a = spelled_name v.name in
    let first = length-append a (bytes_of 4 v.number) in
    let second = length-append (a ++ bytes_of 4 v.number) (spelled_public v.public) in
    let third = length-append (a ++ bytes_of 4 v.number ++ spelled_public v.public) (spelled_flag v.transactional) in
    let fourth = length-append (a ++ bytes_of 4 v.number ++ spelled_public v.public ++ spelled_flag v.transactional) (bytes_of 4 v.quota) in
    let fifth = length-append (a ++ bytes_of 4 v.number ++ spelled_public v.public ++ spelled_flag v.transactional ++ bytes_of 4 v.quota) (spelled_flag v.journal) in
    omega (arith, name, public, transactional, journal, first, second, third, fourth, fifth)

-- The call comes to this.
pub create_queue_is : (m : Manager) (plan : QueuePlan) (v : QueueView) (number : ℕ) → create_refusal m plan ≡ None → plan_of v ≡ plan → v.number ≡ number
    → number ≡ next_queue m.state → create_queue m plan ≡ outcome_by m (change_in (Some (form.CreateQueue v))) Nothing (Ok number)
create_queue_is m plan v number none shown numbered next =
    unless_none m (create_refusal m plan) (recording m (entry.CreateQueue (next_queue m.state) plan) (Ok (next_queue m.state))) none
    ∙ ap (λ p. recording m (entry.CreateQueue (next_queue m.state) p) (Ok (next_queue m.state))) (sym shown)
    ∙ ap (λ k. recording m (entry.CreateQueue k (plan_of v)) (Ok (next_queue m.state))) (sym (numbered ∙ next))
    ∙ ap (λ k. recording m (entry.CreateQueue v.number (plan_of v)) (Ok k)) (sym next)

-- It is refused.

never_broken : (a b c : Bool) (why : CreateFault) → (if a then Some fault.Down else if b then Some fault.QueueThere else if c then Some fault.TooManyQueues else None) ≡ Some why
    → why ≡ fault.DiskFault → ⊥
never_broken true b c why e broken = let none : ⊥ = cc in none
never_broken false true c why e broken = let none : ⊥ = cc in none
never_broken false false true why e broken = let none : ⊥ = cc in none
never_broken false false false why e broken = let none : ⊥ = cc in none

pub create_queue_refused : (d : View) (m : ManagerState) (plan : QueuePlan) (why : CreateFault) → Lawful d → IsValidManager (manager_of m)
    → create_refusal (manager_of m) plan ≡ Some why → IsCall fault.Memory fault.DiskFault d d m m (create_queue (manager_of m) plan) (Err why)
create_queue_refused d m plan why law valid refused = let k = manager_of m in let s = m.store.state in
    refused_call fault.Memory fault.DiskFault why d m (create_queue k plan) law valid
    (unless_some k (create_refusal k plan) why (recording k (entry.CreateQueue (next_queue s) plan) (Ok (next_queue s))) refused)
    (never_broken (is_down k) (queue_there s plan) (nat_le MAX_QUEUES (length s.places.queues)) why refused)

pub create_queue_first : (m : Manager) (plan : QueuePlan) (why : CreateFault) → create_refusal m plan ≡ Some why
    → OnErr (create_queue m plan).answer (Err why ≡ (create_queue m plan).answer)
create_queue_first m plan why refused = first_refused why m (create_queue m plan)
    (unless_some m (create_refusal m plan) why (recording m (entry.CreateQueue (next_queue m.state) plan) (Ok (next_queue m.state))) refused)

-- It can be written.
pub create_queue_ready : (d : View) (m : ManagerState) (plan : QueuePlan) (v : QueueView) (number : ℕ) → RecordsFit → CallsKeepValid → CallsLeaveStore
    → IsValidManager (manager_of m) → (IsUp m → IsOnDisk d m) → create_refusal (manager_of m) plan ≡ None → plan_of v ≡ plan → v.number ≡ number
    → number ≡ next_queue m.store.state → length (spelled (form.CreateQueue v)) ≤ MAX_RECORD → IsReady d m (Some (form.CreateQueue v)) Nothing
create_queue_ready d m plan v number fit keep leave valid on none shown numbered next small = let k = manager_of m in
    ready_by number d m (Some (form.CreateQueue v)) Nothing (create_queue k plan) (create_queue_is k plan v number none shown numbered next)
    (up_from m (first_not (is_down k) fault.Down _ none)) on (record { put = tt; small = small; is_record = refl })
    ((fit k).requests (CreateQueue plan) tt) (by_request k answer.Created (create_queue k plan) ((keep k valid).requests (CreateQueue plan) tt)) ((leave k valid).requests (CreateQueue plan) tt)
