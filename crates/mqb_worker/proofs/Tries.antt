-- How the ops of a worker are tried.
use Rattle.std.proofs.Common.{ap, ap₂, refl, ◌∙◌}
use Rattle.std.specs.Option.{option_map_or}
use Rattle.std.specs.Prelude.{[], ◌&&◌, ◌++◌, ◌+◌, ◌∷◌, ◌≡◌, Bool, Err, IfErr, IfOk, IsSomeAnd, List, None, Ok, Option, Result, Some, false, if◌then◌else◌, is_none, nat_le, not, option_and_then, slice_get, true, ℕ}
use Rattle.mqb_base.specs.declared.draft.Op.TheVariants as op
use Rattle.mqb_base.specs.declared.message.Message.{Message}
use Rattle.mqb_queue.specs.Lists.{count}
use Rattle.mqb_queue.specs.Places.{Queue, numbered}
use Rattle.mqb_model.specs.calls.Commit.{Trial, first_free, send_into, send_of, send_to, take_first, take_from, take_of, trial_of, try_op, with_joined, with_put, with_take}
use Rattle.mqb_model.specs.declared.answers.Done.{Done}
use Rattle.mqb_model.specs.declared.answers.Done.TheVariants as done
use Rattle.mqb_model.specs.declared.faults.OpFault.{OpFault}
use Rattle.mqb_model.specs.declared.faults.OpFault.TheVariants as fault
use Rattle.mqb_model.specs.declared.target.Target.{Target}
use Rattle.mqb_model.specs.declared.target.Target.TheVariants.{AtPeer, Here, Nowhere}
use Rattle.mqb_model.specs.records.Packets.{packet_to}
use Rattle.mqb_model.specs.records.Record as entry
use Rattle.mqb_model.specs.rules.Sequences.{may_join, sequence_for}
use Rattle.mqb_model.specs.state.Resolving.{queue_named, resolved}
use Rattle.mqb_model.specs.state.State.{State}
use Rattle.mqb_worker.specs.Steps.{sent_by}
use Rattle.mqb_worker.specs.Work.{is_idle, queue_by, waiting_at, waiting_in, waiting_of}

-- The take: no queue has the name, it is plain, nothing waits in it, or what waits is taken.
pub data TriesTake (s : State) (name : List ℕ) (now : ℕ) : Result Trial OpFault → Type 0 where
  NoQueue : queue_by s name ≡ None → TriesTake s name now (Err fault.NoQueue)
  Plain : IsSomeAnd (queue_by s name) (λ q. q.plan.transactional ≡ false) → TriesTake s name now (Err fault.NotTransactional)
  Idle : is_idle s name now ≡ true → TriesTake s name now (Err fault.QueueEmpty)
  First : (number k : ℕ) (m : Message) → queue_named s name ≡ Some number → waiting_in s name now ≡ Some m → TriesTake s name now (Ok (with_take (trial_of s) number k m))

module _ (s : State) (name : List ℕ) (now : ℕ) where
  abbrev Tries : Result Trial OpFault → Type 0
  Tries r = TriesTake s name now r

  -- what waits in a queue that is there
  waits : (number : ℕ) (q : Queue) (w : Option Message) → queue_named s name ≡ Some number → numbered s.places.queues number ≡ Some q → waiting_of now number q ≡ w
      → waiting_in s name now ≡ w
  waits number q w named there is = ap (option_and_then (waiting_at s now)) named ∙ ap (option_and_then (waiting_of now number)) there ∙ is

  queue_is : (number : ℕ) (q : Queue) → queue_named s name ≡ Some number → numbered s.places.queues number ≡ Some q → queue_by s name ≡ Some q
  queue_is number q named there = ap (option_and_then (numbered s.places.queues)) named ∙ there

  idle : (number : ℕ) (q : Queue) → queue_named s name ≡ Some number → numbered s.places.queues number ≡ Some q → q.plan.transactional ≡ true
      → waiting_of now number q ≡ None → is_idle s name now ≡ true
  idle number q named there kind none =
      ap₂ (λ (a b : Bool). a && b)
      (ap (λ (o : Option Message). is_none o) (waits number q None named there none))
      (ap (λ (o : Option Queue). option_map_or (λ q. q.plan.transactional) o false) (queue_is number q named there) ∙ kind)

  taken : (number k : ℕ) (q : Queue) → queue_named s name ≡ Some number → numbered s.places.queues number ≡ Some q → q.plan.transactional ≡ true
      → first_free number now q ≡ Some k → (o : Option Message) → slice_get q.lists.durable k ≡ o
      → Tries (option_map_or (λ m. Ok (with_take (trial_of s) number k m)) o (Err fault.QueueEmpty))
  taken number k q named there kind first None got = Idle (idle number q named there kind (ap (option_and_then (slice_get q.lists.durable)) first ∙ got))
  taken number k q named there kind first (Some m) got =
      First number k m named (waits number q (Some m) named there (ap (option_and_then (slice_get q.lists.durable)) first ∙ got))

  found : (number : ℕ) (q : Queue) → queue_named s name ≡ Some number → numbered s.places.queues number ≡ Some q → q.plan.transactional ≡ true
      → (o : Option ℕ) → first_free number now q ≡ o
      → Tries (option_map_or (λ k. option_map_or (λ m. Ok (with_take (trial_of s) number k m)) (slice_get q.lists.durable k) (Err fault.QueueEmpty)) o (Err fault.QueueEmpty))
  found number q named there kind None first = Idle (idle number q named there kind (ap (option_and_then (slice_get q.lists.durable)) first))
  found number q named there kind (Some k) first = taken number k q named there kind first (slice_get q.lists.durable k) refl

  by_kind : (number : ℕ) (q : Queue) → queue_named s name ≡ Some number → numbered s.places.queues number ≡ Some q → (b : Bool) → q.plan.transactional ≡ b
      → Tries (if b then take_first (trial_of s) now number q else Err fault.NotTransactional)
  by_kind number q named there false kind =
      Plain (plain (queue_by s name) (queue_is number q named there))
    where
      plain : (o : Option Queue) → o ≡ Some q → IsSomeAnd o (λ q. q.plan.transactional ≡ false)
      plain None is = let none : ⊥ = cc in absurd none
      plain (Some p) is = let same : p ≡ q = cc in ap (λ (q : Queue). q.plan.transactional) same ∙ kind
  by_kind number q named there true kind = found number q named there kind (first_free number now q) refl

  at_number : (number : ℕ) → queue_named s name ≡ Some number → (o : Option Queue) → numbered s.places.queues number ≡ o
      → Tries (option_map_or (take_from (trial_of s) now number) o (Err fault.NoQueue))
  at_number number named None there = NoQueue (ap (option_and_then (numbered s.places.queues)) named ∙ there)
  at_number number named (Some q) there = by_kind number q named there q.plan.transactional refl

  by_name : (o : Option ℕ) → queue_named s name ≡ o → Tries (option_map_or (take_of (trial_of s) now) o (Err fault.NoQueue))
  by_name None named = NoQueue (ap (option_and_then (numbered s.places.queues)) named)
  by_name (Some number) named = at_number number named (numbered s.places.queues number) refl

  pub tries_take : TriesTake s name now (try_op (trial_of s) now (op.Take name))
  tries_take = by_name (queue_named s name) refl

-- The reply.

-- no send finds a queue empty
abbrev pub NotEmpty : OpFault → Type 0
NotEmpty why = why ≡ fault.QueueEmpty → ⊥

module _ (t : Trial) (now : ℕ) (m : Message) where
  -- it becomes one op of the record, and is told by its identifier
  pub record IsSentTo (target : Target) (next : Trial) : Type 0 where
    pub ops : next.ops ≡ t.ops ++ entry.Send (packet_to t.sending target m) ∷ []
    pub became : Done
    pub told : next.done ≡ t.done ++ became ∷ []
    pub id : sent_by became ≡ Some m.id

  -- what a send to a target comes to
  abbrev Sends : Target → Result Trial OpFault → Type 0
  Sends target r = IfOk r (IsSentTo target) × IfErr r NotEmpty

  into : (number : ℕ) (q : Queue) (a b : Bool)
      → Sends (Here (Some number)) (if not a then Err fault.NotTransactional else if b then Err fault.QueueFull else Ok (with_put t number m))
  into number q false b = (tt, λ same. let none : ⊥ = cc in none)
  into number q true true = (tt, λ same. let none : ⊥ = cc in none)
  into number q true false = (record { ops = refl; became = done.Put m.id; told = refl; id = refl }, tt)

  to_number : (number : ℕ) (o : Option Queue) → Sends (Here (Some number)) (option_map_or (send_into t m number) o (Err fault.NoQueue))
  to_number number None = (tt, λ same. let none : ⊥ = cc in none)
  to_number number (Some q) = into number q q.plan.transactional (nat_le q.plan.quota (count q.lists))

  to_peer : (k : ℕ) (b : Bool) → Sends (AtPeer k) (if b then Ok (with_joined t now m k (sequence_for t.sending k m.destination now)) else Err fault.SequenceSpent)
  to_peer k true =
      let row = sequence_for t.sending k m.destination now in
      (record { ops = refl; became = done.Sent m.id row.sequence (row.committed + 1); told = refl; id = refl }, tt)
  to_peer k false = (tt, λ same. let none : ⊥ = cc in none)

  to : (target : Target) → Sends target (send_to t now m target)
  to (Here None) = (tt, λ same. let none : ⊥ = cc in none)
  to (Here (Some number)) = to_number number (numbered t.sending.places.queues number)
  to (AtPeer k) = to_peer k (may_join t.sending k m.destination)
  to Nowhere = (tt, λ same. let none : ⊥ = cc in none)

  pub tries_send : IfOk (send_of t now m) (IsSentTo (resolved t.sending m.destination)) × IfErr (send_of t now m) NotEmpty
  tries_send = to (resolved t.sending m.destination)
