-- The call send.
use Rattle.std.proofs.Common.{refl, sym, ap, ◌∙◌}
use Rattle.std.specs.Option.{option_map_or, option_or}
use Rattle.std.specs.Prelude.{◌&&◌, ◌≡◌, ◌≤◌, Bool, Err, IfSome, None, Ok, OnOk, Option, Result, Some, false, if◌then◌else◌, length, nat_le, nat_lt, option_map, true, ℕ}
use Rattle.mqb_base.specs.declared.draft.Parts.{Parts}
use Rattle.mqb_base.specs.declared.ids.MessageId.{MessageId}
use Rattle.mqb_base.specs.declared.message.Message.{Message}
use Rattle.mqb_outside.specs.Disk.{Lawful, View}
use Rattle.mqb_entries.specs.SpelledEntries.{Fits, spelled}
use Rattle.mqb_entries.specs.declared.entry.Entry.{Entry}
use Rattle.mqb_packet.specs.declared.packet.Headers.TheVariants as headers
use Rattle.mqb_queue.specs.Lists.{count}
use Rattle.mqb_queue.specs.Places.{Queue, numbered}
use Rattle.mqb_model.specs.calls.Messages.{plain_message}
use Rattle.mqb_model.specs.calls.Call as answer
use Rattle.mqb_model.specs.calls.Call.{Send}
use Rattle.mqb_model.specs.calls.Send.{message_fault, queue_fault, send, send_refusal, sending, target_fault}
use Rattle.mqb_model.specs.declared.faults.SendFault.{SendFault}
use Rattle.mqb_model.specs.declared.faults.SendFault.TheVariants as fault
use Rattle.mqb_model.specs.declared.limits.TheConstants.{MAX_NUMBER, MAX_RECORD}
use Rattle.mqb_model.specs.declared.target.Target.{Target}
use Rattle.mqb_model.specs.declared.target.Target.TheVariants.{AtPeer, Here, Nowhere}
use Rattle.mqb_model.specs.laws.Durable.{CallsLeaveStore}
use Rattle.mqb_model.specs.laws.Fitting.{IsDrafted, RecordsFit}
use Rattle.mqb_model.specs.laws.Keeping.{CallsKeepValid}
use Rattle.mqb_model.specs.managers.Manager.{Manager, is_down}
use Rattle.mqb_model.specs.managers.Outcomes.{Outcome, answering, unless}
use Rattle.mqb_model.specs.managers.Valid.{IsValidManager}
use Rattle.mqb_model.specs.records.Packets.{is_too_large}
use Rattle.mqb_model.specs.records.Reading.{record_in}
use Rattle.mqb_model.specs.records.Record.{Record}
use Rattle.mqb_model.specs.state.Resolving.{resolved}
use Rattle.mqb_model.specs.state.State.{State}
use Rattle.mqb_store.specs.Writing.{change_in}
use Rattle.mqb_store.specs.declared.faults.WriteFault.{WriteFault}
use Rattle.mqb_plans.specs.Plans.{ComesTo, Plan, RefusesSend}
use Rattle.mqb_manager.specs.Calls.{IsCall}
use Rattle.mqb_manager.specs.States.{IsOnDisk, IsUp, ManagerState, manager_of}
use Rattle.mqb_manager.specs.Writing.{IsReady, answered, outcome_by}
use Rattle.mqb_manager.proofs.Calls.{by_request, change_is, ok_answered, put_by, ready_by, refused_call, unmade_call}
use Rattle.mqb_manager.proofs.Conditions.{up_from}

-- No message is refused since a disk failed.

queue_unbroken : (a b : Bool) → (if a then Some fault.Transactional else if b then Some fault.QueueFull else None) ≡ Some fault.DiskFault → ⊥
queue_unbroken true b e = let none : ⊥ = cc in none
queue_unbroken false true e = let none : ⊥ = cc in none
queue_unbroken false false e = let none : ⊥ = cc in none

numbered_unbroken : (q : Option Queue) → option_map_or queue_fault q (Some fault.NoQueue) ≡ Some fault.DiskFault → ⊥
numbered_unbroken None e = let none : ⊥ = cc in none
numbered_unbroken (Some q) e = queue_unbroken q.plan.transactional (nat_le q.plan.quota (count q.lists)) e

target_unbroken : (s : State) (t : Target) → target_fault s t ≡ Some fault.DiskFault → ⊥
target_unbroken s (Here (Some number)) e = numbered_unbroken (numbered s.places.queues number) e
target_unbroken s t e = let none : ⊥ = cc in none

message_unbroken : (a b : Bool) → (if a then Some fault.NumbersSpent else if b then Some fault.TooLarge else None) ≡ Some fault.DiskFault → ⊥
message_unbroken true b e = let none : ⊥ = cc in none
message_unbroken false true e = let none : ⊥ = cc in none
message_unbroken false false e = let none : ⊥ = cc in none

refusal_unbroken : (down : Bool) (a b : Option SendFault) → (a ≡ Some fault.DiskFault → ⊥) → (b ≡ Some fault.DiskFault → ⊥)
    → (if down then Some fault.Down else option_or a b) ≡ Some fault.DiskFault → ⊥
refusal_unbroken true a b first second e = let none : ⊥ = cc in none
refusal_unbroken false (Some why) b first second e = first e
refusal_unbroken false None b first second e = second e

answer_unbroken : (m : Manager) (why : Option SendFault) (recoverable : Bool) (message : Message) (now : ℕ) → (why ≡ Some fault.DiskFault → ⊥)
    → (unless m why (sending m recoverable message now)).answer ≡ Err fault.DiskFault → ⊥
answer_unbroken m (Some why) recoverable message now not e = not (let inside : why ≡ fault.DiskFault = cc in ap (λ (why : SendFault). Some why) inside)
answer_unbroken m None true message now not e = let none : ⊥ = cc in none
answer_unbroken m None false message now not e = let none : ⊥ = cc in none

send_unbroken : (m : Manager) (p : Parts) (recoverable : Bool) (now : ℕ) → send m p recoverable now ≡ answering m (Err fault.DiskFault) → ⊥
send_unbroken m p recoverable now e = let message = plain_message m.state recoverable now p in
    answer_unbroken m (send_refusal m recoverable message) recoverable message now
    (refusal_unbroken (is_down m) (target_fault m.state (resolved m.state message.destination)) (message_fault m.state recoverable message)
    (target_unbroken m.state (resolved m.state message.destination))
    (message_unbroken (recoverable && nat_lt MAX_NUMBER m.state.next_number) (is_too_large headers.Session message)))
    (ap (λ (o : Outcome (Result MessageId SendFault)). o.answer) e)

-- It is refused.

module _ (p : Parts) (recoverable : Bool) (now : ℕ) where
  pub send_refused : (d : View) (m : ManagerState) (s : State) (why : SendFault) → Lawful d → IsValidManager (manager_of m)
      → is_down (manager_of m) ≡ false → s ≡ m.store.state → RefusesSend s (λ m. send m p recoverable now) why
      → IsCall fault.Memory fault.DiskFault d d m m (send (manager_of m) p recoverable now) (Err why)
  send_refused d m s why law valid up at refused = by why refused
    where
      same : (why : SendFault) → (why ≡ fault.DiskFault → ⊥) → send (manager_of m) p recoverable now ≡ answering (manager_of m) (Err why)
          → IsCall fault.Memory fault.DiskFault d d m m (send (manager_of m) p recoverable now) (Err why)
      same why differ is = refused_call fault.Memory fault.DiskFault why d m (send (manager_of m) p recoverable now) law valid is differ

      by : (why : SendFault) → RefusesSend s (λ m. send m p recoverable now) why
          → IsCall fault.Memory fault.DiskFault d d m m (send (manager_of m) p recoverable now) (Err why)
      by fault.Memory r = unmade_call fault.Memory fault.DiskFault d m (send (manager_of m) p recoverable now) law (λ same. let none : ⊥ = cc in none)
      by fault.DiskFault r = absurd (send_unbroken (manager_of m) p recoverable now (r (manager_of m) (sym at) up))
      by why r = same why (λ same. let none : ⊥ = cc in none) (r (manager_of m) (sym at) up)

  -- It is written, where there is an entry.

  -- the call comes to this
  pub send_is : (m : ManagerState) (s : State) (plan : Plan) (id : MessageId) (form : Option Entry) → is_down (manager_of m) ≡ false → s ≡ m.store.state
      → ComesTo s (λ m. send m p recoverable now) plan id → option_map record_in form ≡ option_map (λ r. Some r) plan.written
      → send (manager_of m) p recoverable now ≡ outcome_by (manager_of m) (change_in form) plan.beside (Ok id)
  send_is m s plan id form up at comes shown = comes (manager_of m) (sym at) up
      ∙ ap (λ (r : Option Record). outcome_by {A = Result MessageId SendFault} (manager_of m) r plan.beside (Ok id)) (sym (change_is form plan.written shown))

  -- it can be written
  pub send_ready : (d : View) (m : ManagerState) (s : State) (plan : Plan) (id : MessageId) (form : Option Entry) → RecordsFit → CallsKeepValid → CallsLeaveStore
      → IsValidManager (manager_of m) → (IsUp m → IsOnDisk d m) → is_down (manager_of m) ≡ false → s ≡ m.store.state → IsDrafted p
      → ComesTo s (λ m. send m p recoverable now) plan id → option_map record_in form ≡ option_map (λ r. Some r) plan.written
      → IfSome form Fits → IfSome form (λ e. length (spelled e) ≤ MAX_RECORD) → IsReady d m form plan.beside
  send_ready d m s plan id form fit keep leave valid on up at drafted comes shown put small = let k = manager_of m in
      ready_by id d m form plan.beside (send k p recoverable now) (send_is m s plan id form up at comes shown)
      (up_from m up) on (put_by form plan.written shown put small)
      ((fit k).requests (Send now recoverable p) tt) (by_request k answer.Sent (send k p recoverable now) ((keep k valid).requests (Send now recoverable p) drafted)) ((leave k valid).requests (Send now recoverable p) drafted)

-- Where nothing is recorded there was no entry.

none_in : (form : Option Entry) (r : Option Record) → option_map record_in form ≡ option_map (λ r. Some r) r → r ≡ None → form ≡ None
none_in None r shown none = refl
none_in (Some form) None shown none = absurd (let none : ⊥ = cc in none)
none_in (Some form) (Some r) shown none = absurd (let none : ⊥ = cc in none)

pub no_entry : {A : Type 0} (m : Manager) (o : Outcome A) (form : Option Entry) (plan : Plan) (answer : A)
    → o ≡ outcome_by m (change_in form) plan.beside answer → option_map record_in form ≡ option_map (λ r. Some r) plan.written
    → o.entry ≡ None → form ≡ None
no_entry {A} m o form plan answer is shown none = none_in form plan.written shown
    (sym (change_is form plan.written shown) ∙ sym (ap (λ (o : Outcome A). o.entry) is) ∙ none)

-- Where something is, the disk was called for it.

counted_in : (form : Option Entry) (o : Option Record) (P : Type 0) → o ≡ change_in form → IfSome form (λ _. P) → IfSome o (λ _. P)
counted_in form None P is h = tt
counted_in None (Some r) P is h = absurd (let none : ⊥ = cc in none)
counted_in (Some form) (Some r) P is h = h

ok_in : {V E : Type 0} (w : Result V E) (P Q : Type 0) → (P → Q) → OnOk w P → OnOk w Q
ok_in (Ok v) P Q f h = f h
ok_in (Err why) P Q f h = tt

pub counted_form : {V E : Type 0} (value : V) (memory broken : E) (form : Option Entry) (o : Option Record) (P : Type 0) (w : Result (Unit {0}) WriteFault)
    → o ≡ change_in form → OnOk w (IfSome form (λ _. P)) → OnOk (answered w value memory broken) (IfSome o (λ _. P))
counted_form value memory broken form o P w is h = ok_answered value memory broken (IfSome o (λ _. P)) w
    (ok_in w (IfSome form (λ _. P)) (IfSome o (λ _. P)) (counted_in form o P is) h)
