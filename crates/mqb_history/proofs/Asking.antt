-- The messages of a transaction are what its ops ask for.
use Rattle.std.proofs.Common.{refl, ap, sym, subst, inl, inr}
use Rattle.std.specs.List.{AllByRecursion}
use Rattle.std.specs.Option.{option_map_or}
use Rattle.std.specs.Prelude.{[], ◌++◌, ◌+◌, ◌∷◌, ◌≡◌, Bool, Err, List, None, Ok, Option, Result, Some, cond, false, nat_le, not, slice_get, true, ℕ}
use Rattle.mqb_base.specs.declared.draft.Op.{Op}
use Rattle.mqb_base.specs.declared.draft.Op.TheVariants as asked
use Rattle.mqb_base.specs.declared.draft.Parts.{Parts}
use Rattle.mqb_base.specs.declared.message.Delivery.TheVariants.{Transactional}
use Rattle.mqb_base.specs.declared.message.Message.{Message}
use Rattle.mqb_base.specs.declared.queues.EntryPlace.TheVariants as place
use Rattle.mqb_exactly_once.specs.Words.{In}
use Rattle.mqb_fields.specs.Reading.{◌>>=◌}
use Rattle.mqb_model.specs.calls.Commit.{Trial, at_op, first_free, send_into, send_to, take_first, take_from, take_of, trial_of, try_op, try_ops, with_joined, with_put, with_send, with_take}
use Rattle.mqb_model.specs.calls.Messages.{message_for, message_of}
use Rattle.mqb_model.specs.declared.answers.Done.{Done}
use Rattle.mqb_model.specs.declared.answers.Done.TheVariants as done
use Rattle.mqb_model.specs.declared.faults.CommitFault.{CommitFault}
use Rattle.mqb_model.specs.declared.faults.OpFault.{OpFault}
use Rattle.mqb_model.specs.declared.faults.OpFault.TheVariants as fault
use Rattle.mqb_model.specs.declared.target.Target.{Target}
use Rattle.mqb_model.specs.declared.target.Target.TheVariants.{AtPeer, Here, Nowhere}
use Rattle.mqb_model.specs.records.Commit.{sends_of}
use Rattle.mqb_model.specs.records.Packets.{in_transaction, packet_to}
use Rattle.mqb_model.specs.records.Record.{RecordOp}
use Rattle.mqb_model.specs.records.Record as entry
use Rattle.mqb_model.specs.rules.Sequences.{join, may_join, sequence_for}
use Rattle.mqb_model.specs.state.Places.{put_at}
use Rattle.mqb_model.specs.state.Resolving.{queue_named, resolved}
use Rattle.mqb_model.specs.state.State.{State}
use Rattle.mqb_orders.specs.Rows.{Row}
use Rattle.mqb_queue.specs.Lists.{count}
use Rattle.mqb_queue.specs.Places.{Queue, numbered}
use Rattle.mqb_history.proofs.Committing.{in_append}
use Rattle.mqb_history.proofs.Lists.{all_append, all_weaker}

-- a message is asked for by one of these ops
pub record IsOfOps (now : ℕ) (ops : List Op) (m : Message) : Type 0 where
  pub parts : Parts
  pub send : In (asked.Send parts) ops
  pub message : m ≡ message_of m.id Transactional 0 now parts

abbrev AreOfOps : ℕ → List Op → Trial → Type 0
AreOfOps now ops t = AllByRecursion (IsOfOps now ops) (sends_of t.ops)

abbrev IfOfOps : {E : Type 0} → ℕ → List Op → Result Trial E → Type 0
IfOfOps now ops (Ok t) = AreOfOps now ops t
IfOfOps now ops (Err why) = Unit {0}

sends_append : (xs ys : List RecordOp) → sends_of (xs ++ ys) ≡ sends_of xs ++ sends_of ys
sends_append [] ys = refl
sends_append (entry.Send p ∷ xs) ys = ap (λ rest. in_transaction p ∷ rest) (sends_append xs ys)
sends_append (entry.Take queue id ∷ xs) ys = sends_append xs ys

-- a take sends nothing
with_take_asked : (now : ℕ) (ops : List Op) (t : Trial) (number k : ℕ) (m : Message) → AreOfOps now ops t → AreOfOps now ops (with_take t number k m)
with_take_asked now ops t number k m h = subst (AllByRecursion (IsOfOps now ops)) (sym (sends_append t.ops (entry.Take number m.id ∷ [])))
    (all_append (IsOfOps now ops) (sends_of t.ops) [] h tt)

-- a send sends what is asked for
with_send_asked : (now : ℕ) (ops : List Op) (t : Trial) (p : Parts) (target : Target) (after : State) (what : Done) → In (asked.Send p) ops → AreOfOps now ops t
    → AreOfOps now ops (with_send t target (message_for t.sending now p) after what)
with_send_asked now ops t p target after what inside h = subst (AllByRecursion (IsOfOps now ops)) (sym (sends_append t.ops (entry.Send (packet_to t.sending target m) ∷ [])))
    (all_append (IsOfOps now ops) (sends_of t.ops) (in_transaction (packet_to t.sending target m) ∷ []) h (record { parts = p; send = inside; message = refl }, tt))
  where
    m : Message
    m = message_for t.sending now p

if_or : {X E : Type 0} (now : ℕ) (ops : List Op) (f : X → Result Trial E) (o : Option X) (why : E) → ((x : X) → IfOfOps now ops (f x)) → IfOfOps now ops (option_map_or f o (Err why))
if_or now ops f None why h = tt
if_or now ops f (Some x) why h = h x

if_either : {E : Type 0} (now : ℕ) (ops : List Op) (b : Bool) (x y : Result Trial E) → IfOfOps now ops x → IfOfOps now ops y → IfOfOps now ops (cond b x y)
if_either now ops true x y left right = left
if_either now ops false x y left right = right

take_asked : (now : ℕ) (ops : List Op) (t : Trial) (number : ℕ) (q : Queue) → AreOfOps now ops t → IfOfOps now ops (take_from t now number q)
take_asked now ops t number q h = if_either now ops q.plan.transactional (take_first t now number q) (Err fault.NotTransactional)
    (if_or now ops (λ k. option_map_or (λ m. Ok (with_take t number k m)) (slice_get q.lists.durable k) (Err fault.QueueEmpty)) (first_free number now q) fault.QueueEmpty
    (λ k. if_or now ops (λ m. Ok (with_take t number k m)) (slice_get q.lists.durable k) fault.QueueEmpty (λ m. with_take_asked now ops t number k m h))) tt

send_asked : (now : ℕ) (ops : List Op) (t : Trial) (p : Parts) (target : Target) → In (asked.Send p) ops → AreOfOps now ops t → IfOfOps now ops (send_to t now (message_for t.sending now p) target)
send_asked now ops t p (Here None) inside h = tt
send_asked now ops t p (Here (Some number)) inside h = if_or now ops (send_into t m number) (numbered t.sending.places.queues number) fault.NoQueue
    (λ q. if_either now ops (not q.plan.transactional) (Err fault.NotTransactional) (cond (nat_le q.plan.quota (count q.lists)) (Err fault.QueueFull) (Ok (with_put t number m))) tt
    (if_either now ops (nat_le q.plan.quota (count q.lists)) (Err fault.QueueFull) (Ok (with_put t number m)) tt
    (with_send_asked now ops t p (Here (Some number)) (put_at t.sending (place.Queue number) m) (done.Put m.id) inside h)))
  where
    m : Message
    m = message_for t.sending now p
send_asked now ops t p (AtPeer k) inside h = if_either now ops (may_join t.sending k m.destination) (Ok (with_joined t now m k row)) (Err fault.SequenceSpent)
    (with_send_asked now ops t p (AtPeer k) (join t.sending k now m) (done.Sent m.id row.sequence (row.committed + 1)) inside h) tt
  where
    m : Message
    m = message_for t.sending now p

    row : Row
    row = sequence_for t.sending k m.destination now
send_asked now ops t p Nowhere inside h = tt

op_asked : (now : ℕ) (ops : List Op) (t : Trial) (op : Op) → In op ops → AreOfOps now ops t → IfOfOps now ops (try_op t now op)
op_asked now ops t (asked.Take name) inside h = if_or now ops (take_of t now) (queue_named t.taking name) fault.NoQueue
    (λ number. if_or now ops (take_from t now number) (numbered t.taking.places.queues number) fault.NoQueue (λ q. take_asked now ops t number q h))
op_asked now ops t (asked.Send p) inside h = send_asked now ops t p (resolved t.sending p.destination) inside h

all_asked : (now index : ℕ) (ops : List Op) (t : Trial) (rest : List Op) → ((op : Op) → In op rest → In op ops) → AreOfOps now ops t → IfOfOps now ops (try_ops now index t rest)
all_asked now index ops t [] within h = h
all_asked now index ops t (op ∷ rest) within h = at (try_op t now op) (op_asked now ops t op (within op (inl refl)) h) (λ next g. all_asked now (index + 1) ops next rest (λ x i. within x (inr i)) g)
  where
    at : (r : Result Trial OpFault) → IfOfOps now ops r → ((next : Trial) → AreOfOps now ops next → IfOfOps now ops (try_ops now (index + 1) next rest))
        → IfOfOps now ops (at_op index r >>= λ next. try_ops now (index + 1) next rest)
    at (Ok next) g on = on next g
    at (Err why) g on = tt

-- what was tried well sends what was asked for
abbrev pub IfAsked : {E : Type 0} → ℕ → List Op → Result Trial E → Type 0
IfAsked now ops (Ok t) = AllByRecursion (IsOfOps now ops) (sends_of t.ops)
IfAsked now ops (Err why) = Unit {0}

pub ops_asked : (s : State) (ops : List Op) (now : ℕ) → IfAsked now ops (try_ops now 0 (trial_of s) ops)
ops_asked s ops now = at (try_ops now 0 (trial_of s) ops) (all_asked now 0 ops (trial_of s) ops (λ op i. i) tt)
  where
    at : (r : Result Trial CommitFault) → IfOfOps now ops r → IfAsked now ops r
    at (Ok t) h = h
    at (Err why) h = tt
