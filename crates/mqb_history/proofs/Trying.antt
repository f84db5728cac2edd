-- The messages that a transaction sends bear its manager's next numbers, one after another.
use Rattle.std.proofs.Common.{refl, ap, sym, subst, ◌∙◌, arith}
use Rattle.std.specs.Option.{option_map_or}
use Rattle.std.specs.Prelude.{[], ◌+◌, ◌++◌, ◌∷◌, ◌≡◌, Bool, Err, List, None, Ok, Option, Result, Some, cond, false, length, nat_le, not, slice_get, true, ℕ}
use Rattle.mqb_base.specs.declared.draft.Op.{Op}
use Rattle.mqb_base.specs.declared.draft.Op.TheVariants as asked
use Rattle.mqb_base.specs.declared.ids.Guid.{Guid}
use Rattle.mqb_base.specs.declared.message.Message.{Message}
use Rattle.mqb_base.specs.declared.queues.EntryPlace.TheVariants as place
use Rattle.mqb_fields.specs.Reading.{◌>>=◌}
use Rattle.mqb_model.specs.calls.Commit.{Trial, at_op, first_free, send_into, send_to, send_to_peer, take_first, take_from, take_of, trial_of, try_op, try_ops, with_joined, with_put, with_send, with_take}
use Rattle.mqb_model.specs.calls.Messages.{message_for}
use Rattle.mqb_model.specs.declared.answers.Done.{Done}
use Rattle.mqb_model.specs.declared.answers.Done.TheVariants as done
use Rattle.mqb_base.specs.declared.ids.Identity.{Identity}
use Rattle.mqb_model.specs.declared.faults.OpFault.{OpFault}
use Rattle.mqb_model.specs.declared.faults.OpFault.TheVariants as fault
use Rattle.mqb_model.specs.declared.target.Target.{Target}
use Rattle.mqb_model.specs.declared.target.Target.TheVariants.{AtPeer, Here, Nowhere}
use Rattle.mqb_model.specs.records.Commit.{sends_of}
use Rattle.mqb_model.specs.records.Record.{RecordOp}
use Rattle.mqb_model.specs.records.Record as entry
use Rattle.mqb_model.specs.records.Packets.{in_transaction, packet_to}
use Rattle.mqb_model.specs.rules.Sequences.{join, may_join, new_sequence, sequence_for, sequence_in_use, with_kept, with_sequence}
use Rattle.mqb_model.specs.state.Places.{put_at}
use Rattle.mqb_model.specs.state.Resolving.{queue_named, resolved}
use Rattle.mqb_model.specs.state.Rows.{with_row}
use Rattle.mqb_model.specs.state.State.{State}
use Rattle.mqb_orders.specs.Rows.{Row}
use Rattle.mqb_queue.specs.Lists.{count}
use Rattle.mqb_queue.specs.Places.{Queue, numbered}
use Rattle.mqb_history.specs.Made.{AreNumbered}

-- the sends so far took the next numbers
pub record IsTried (s : State) (t : Trial) : Type 0 where
  pub numbered : AreNumbered s.identity.guid s.next_number (sends_of t.ops)
  pub own : t.sending.identity.guid ≡ s.identity.guid
  pub next : t.sending.next_number ≡ s.next_number + length (sends_of t.ops)

abbrev pub IfTried : {E : Type 0} → State → Result Trial E → Type 0
IfTried s (Ok t) = IsTried s t
IfTried s (Err why) = Unit {0}

sends_append : (xs ys : List RecordOp) → sends_of (xs ++ ys) ≡ sends_of xs ++ sends_of ys
sends_append [] ys = refl
sends_append (entry.Send p ∷ xs) ys = ap (λ rest. in_transaction p ∷ rest) (sends_append xs ys)
sends_append (entry.Take queue id ∷ xs) ys = sends_append xs ys

numbered_append : (own : Guid) (n : ℕ) (ms : List Message) (m : Message) → AreNumbered own n ms → m.id ≡ record { qm = own; number = n + length ms }
    → AreNumbered own n (ms ++ m ∷ [])
numbered_append own n [] m h e = (e ∙ ap (λ k. record { qm = own; number = k }) (let z : n + 0 ≡ n = omega arith in z), tt)
numbered_append own n (x ∷ ms) m h e = (
  h.0,
  numbered_append own (n + 1) ms m h.1
      (e ∙ ap (λ k. record { qm = own; number = k }) (let z : n + length (x ∷ ms) ≡ n + 1 + length ms = omega arith in z)),
)

length_more : {X : Type 0} (xs : List X) (x : X) → length (xs ++ x ∷ []) ≡ length xs + 1
length_more [] x = refl
length_more (y ∷ ys) x = let e = length_more ys x in omega (arith, e)

append_nothing : {X : Type 0} (xs : List X) → xs ++ [] ≡ xs
append_nothing [] = refl
append_nothing (x ∷ xs) = ap (λ rest. x ∷ rest) (append_nothing xs)

-- a message more is sent under the next number
with_send_tried : (s : State) (t : Trial) (target : Target) (m : Message) (after : State) (what : Done) → IsTried s t
    → m.id ≡ record { qm = t.sending.identity.guid; number = t.sending.next_number }
    → after.identity ≡ t.sending.identity → after.next_number ≡ t.sending.next_number → IsTried s (with_send t target m after what)
with_send_tried s t target m after what h id own next = record {
  numbered = subst (AreNumbered s.identity.guid s.next_number) (sym sends)
      (numbered_append s.identity.guid s.next_number (sends_of t.ops) sent h.numbered
      (id ∙ ap (λ g. record { qm = g; number = t.sending.next_number }) h.own ∙ ap (λ k. record { qm = s.identity.guid; number = k }) h.next));
  own = ap (λ (i : Identity). i.guid) own ∙ h.own;
  next = let a = ap (λ (ms : List Message). length ms) sends in let b = length_more (sends_of t.ops) sent in let c = h.next in
      let e : after.next_number + 1 ≡ s.next_number + length (sends_of (t.ops ++ entry.Send (packet_to t.sending target m) ∷ [])) = omega (arith, a, b, c, next) in e;
}
  where
    sent : Message
    sent = in_transaction (packet_to t.sending target m)

    sends : sends_of (t.ops ++ entry.Send (packet_to t.sending target m) ∷ []) ≡ sends_of t.ops ++ sent ∷ []
    sends = sends_append t.ops (entry.Send (packet_to t.sending target m) ∷ [])

-- a take sends nothing
with_take_tried : (s : State) (t : Trial) (number k : ℕ) (m : Message) → IsTried s t → IsTried s (with_take t number k m)
with_take_tried s t number k m h = record {
  numbered = subst (AreNumbered s.identity.guid s.next_number) (sym same) h.numbered;
  own = h.own;
  next = h.next ∙ ap (λ (ms : List Message). s.next_number + length ms) (sym same);
}
  where
    same : sends_of (t.ops ++ entry.Take number m.id ∷ []) ≡ sends_of t.ops
    same = sends_append t.ops (entry.Take number m.id ∷ []) ∙ append_nothing (sends_of t.ops)

-- Ops.

if_or : {X E : Type 0} (s : State) (f : X → Result Trial E) (o : Option X) (why : E) → ((x : X) → IfTried s (f x)) → IfTried s (option_map_or f o (Err why))
if_or s f None why h = tt
if_or s f (Some x) why h = h x

if_either : {E : Type 0} (s : State) (b : Bool) (x y : Result Trial E) → IfTried s x → IfTried s y → IfTried s (cond b x y)
if_either s true x y left right = left
if_either s false x y left right = right

take_tried : (s : State) (t : Trial) (now number : ℕ) (q : Queue) → IsTried s t → IfTried s (take_from t now number q)
take_tried s t now number q h = if_either s q.plan.transactional (take_first t now number q) (Err fault.NotTransactional)
    (if_or s (λ k. option_map_or (λ m. Ok (with_take t number k m)) (slice_get q.lists.durable k) (Err fault.QueueEmpty)) (first_free number now q) fault.QueueEmpty
    (λ k. if_or s (λ m. Ok (with_take t number k m)) (slice_get q.lists.durable k) fault.QueueEmpty (λ m. with_take_tried s t number k m h))) tt

-- a message has the next number
abbrev IsNumberedNext : Trial → Message → Type 0
IsNumberedNext t m = m.id ≡ record { qm = t.sending.identity.guid; number = t.sending.next_number }

into_tried : (s : State) (t : Trial) (m : Message) (number : ℕ) (q : Queue) → IsTried s t → IsNumberedNext t m → IfTried s (send_into t m number q)
into_tried s t m number q h id = if_either s (not q.plan.transactional) (Err fault.NotTransactional)
    (cond (nat_le q.plan.quota (count q.lists)) (Err fault.QueueFull) (Ok (with_put t number m))) tt
    (if_either s (nat_le q.plan.quota (count q.lists)) (Err fault.QueueFull) (Ok (with_put t number m)) tt
    (with_send_tried s t (Here (Some number)) m (put_at t.sending (place.Queue number) m) (done.Put m.id) h id refl refl))

join_identity : (s : State) (peer now : ℕ) (m : Message) → (join s peer now m).identity ≡ s.identity
join_identity s peer now m = at (sequence_in_use s peer m.destination)
  where
    at : (o : Option Row) → (option_map_or (λ row. with_row (with_kept m) s row.sequence.ordinal) o (with_sequence s (with_kept m (new_sequence s peer m.destination now)))).identity ≡ s.identity
    at None = refl
    at (Some row) = refl

join_next : (s : State) (peer now : ℕ) (m : Message) → (join s peer now m).next_number ≡ s.next_number
join_next s peer now m = at (sequence_in_use s peer m.destination)
  where
    at : (o : Option Row) → (option_map_or (λ row. with_row (with_kept m) s row.sequence.ordinal) o (with_sequence s (with_kept m (new_sequence s peer m.destination now)))).next_number ≡ s.next_number
    at None = refl
    at (Some row) = refl

peer_tried : (s : State) (t : Trial) (now : ℕ) (m : Message) (k : ℕ) → IsTried s t → IsNumberedNext t m → IfTried s (send_to_peer t now m k)
peer_tried s t now m k h id = if_either s (may_join t.sending k m.destination) (Ok (with_joined t now m k (sequence_for t.sending k m.destination now))) (Err fault.SequenceSpent)
    (with_send_tried s t (AtPeer k) m (join t.sending k now m)
    (done.Sent m.id (sequence_for t.sending k m.destination now).sequence ((sequence_for t.sending k m.destination now).committed + 1)) h id
    (join_identity t.sending k now m) (join_next t.sending k now m)) tt

to_tried : (s : State) (t : Trial) (now : ℕ) (m : Message) (target : Target) → IsTried s t → IsNumberedNext t m → IfTried s (send_to t now m target)
to_tried s t now m (Here None) h id = tt
to_tried s t now m (Here (Some number)) h id = if_or s (send_into t m number) (numbered t.sending.places.queues number) fault.NoQueue (λ q. into_tried s t m number q h id)
to_tried s t now m (AtPeer k) h id = peer_tried s t now m k h id
to_tried s t now m Nowhere h id = tt

op_tried : (s : State) (t : Trial) (now : ℕ) (op : Op) → IsTried s t → IfTried s (try_op t now op)
op_tried s t now (asked.Take name) h = if_or s (take_of t now) (queue_named t.taking name) fault.NoQueue
    (λ number. if_or s (take_from t now number) (numbered t.taking.places.queues number) fault.NoQueue (λ q. take_tried s t now number q h))
op_tried s t now (asked.Send p) h = to_tried s t now (message_for t.sending now p) (resolved t.sending p.destination) h refl

all_tried : (s : State) (now index : ℕ) (t : Trial) (ops : List Op) → IsTried s t → IfTried s (try_ops now index t ops)
all_tried s now index t [] h = h
all_tried s now index t (op ∷ ops) h = at (try_op t now op) (op_tried s t now op h) (λ next g. all_tried s now (index + 1) next ops g)
  where
    at : (r : Result Trial OpFault) → IfTried s r → ((next : Trial) → IsTried s next → IfTried s (try_ops now (index + 1) next ops))
        → IfTried s (at_op index r >>= λ next. try_ops now (index + 1) next ops)
    at (Ok next) g rest = rest next g
    at (Err why) g rest = tt

pub ops_tried : (s : State) (ops : List Op) (now : ℕ) → IfTried s (try_ops now 0 (trial_of s) ops)
ops_tried s ops now = all_tried s now 0 (trial_of s) ops (record { numbered = tt; own = refl; next = omega arith })
