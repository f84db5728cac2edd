-- The records of transactions and sends have a spelling.
use Rattle.std.proofs.Common.{refl, length, arith, length-append}
use Rattle.std.proofs.lemmas.Bool.Decides.{nat_tests}
use Rattle.std.specs.List.{list_any}
use Rattle.std.specs.Option.{option_map_or}
use Rattle.std.specs.Prelude.{◌+◌, ◌==◌, ◌||◌, ◌∷◌, ◌≡◌, ◌≤◌, [], Bool, Err, IfOk, List, None, Ok, Option, Result, Some, cond, false, nat_le, nat_lt, not, slice_get, true, ℕ}
use Rattle.mqb_base.specs.declared.draft.Op.{Op}
use Rattle.mqb_base.specs.declared.draft.Op.TheVariants as asked
use Rattle.mqb_base.specs.declared.draft.Parts.{Parts}
use Rattle.mqb_base.specs.declared.message.Message.{Message}
use Rattle.mqb_packet.specs.mqb_fields.Reading.{◌>>=◌}
use Rattle.mqb_packet.specs.declared.packet.Headers.TheVariants as headers
use Rattle.mqb_queue.specs.Lists.{count}
use Rattle.mqb_queue.specs.Places.{Queue, numbered}
use Rattle.mqb_model.specs.calls.Commit.{Trial, at_op, commit, commit_tried, first_free, send_into, send_to, take_first, take_from, take_of, trial_of, try_op, try_ops, with_joined, with_put, with_take}
use Rattle.mqb_model.specs.calls.Messages.{message_for, plain_message}
use Rattle.mqb_model.specs.calls.Send.{send, send_refusal, sending}
use Rattle.mqb_model.specs.declared.faults.CommitFault.{CommitFault}
use Rattle.mqb_model.specs.declared.faults.CommitFault.TheVariants as commit_fault
use Rattle.mqb_model.specs.declared.faults.OpFault.{OpFault}
use Rattle.mqb_model.specs.declared.faults.OpFault.TheVariants as op_fault
use Rattle.mqb_model.specs.declared.limits.TheConstants.{MAX_NUMBER, MAX_OPS, MAX_RECORD}
use Rattle.mqb_model.specs.declared.target.Target.{Target}
use Rattle.mqb_model.specs.declared.target.Target.TheVariants.{AtPeer, Here, Nowhere}
use Rattle.mqb_model.specs.laws.Fitting.{IsSpelled}
use Rattle.mqb_model.specs.managers.Manager.{Manager, is_down}
use Rattle.mqb_model.specs.managers.Outcomes.{recording, unless}
use Rattle.mqb_model.specs.records.Commit.{sends_of}
use Rattle.mqb_model.specs.records.Counting.{IsSpellable, commit_size}
use Rattle.mqb_model.specs.records.Packets.{is_too_large}
use Rattle.mqb_model.specs.records.Record as entry
use Rattle.mqb_model.specs.rules.Sequences.{may_join, sequence_for}
use Rattle.mqb_model.specs.state.Resolving.{queue_named, resolved}
use Rattle.mqb_model.proofs.Entered.{unless_has}

-- Each op that is tried adds one to a transaction.

-- a trial has one op more
abbrev Adds : Trial → {E : Type 0} → Result Trial E → Type 0
Adds t r = IfOk r (λ next. length next.ops ≡ length t.ops + 1)

take_adds : (t : Trial) (now number : ℕ) → Adds t (take_of t now number)
take_adds t now number = at (numbered t.taking.places.queues number)
  where
    gone : (k : ℕ) (o : Option Message) → IfOk (option_map_or (λ m. Ok (with_take t number k m)) o (Err op_fault.QueueEmpty)) (λ next. length next.ops ≡ length t.ops + 1)
    gone k None = tt
    gone k (Some m) = length-append t.ops (entry.Take number m.id ∷ [])

    first : (q : Queue) (o : Option ℕ)
        → IfOk (option_map_or (λ k. option_map_or (λ m. Ok (with_take t number k m)) (slice_get q.lists.durable k) (Err op_fault.QueueEmpty)) o (Err op_fault.QueueEmpty)) (λ next. length next.ops ≡ length t.ops + 1)
    first q None = tt
    first q (Some k) = gone k (slice_get q.lists.durable k)

    from : (q : Queue) (b : Bool) → IfOk (cond b (take_first t now number q) (Err op_fault.NotTransactional)) (λ next. length next.ops ≡ length t.ops + 1)
    from q true = first q (first_free number now q)
    from q false = tt

    at : (o : Option Queue) → IfOk (option_map_or (take_from t now number) o (Err op_fault.NoQueue)) (λ next. length next.ops ≡ length t.ops + 1)
    at None = tt
    at (Some q) = from q q.plan.transactional

send_adds : (t : Trial) (now : ℕ) (m : Message) (to : Target) → Adds t (send_to t now m to)
send_adds t now m (Here None) = tt
send_adds t now m (Here (Some number)) = at (numbered t.sending.places.queues number)
  where
    into : (b full : Bool) → IfOk (cond b (Err op_fault.NotTransactional) (cond full (Err op_fault.QueueFull) (Ok (with_put t number m)))) (λ next. length next.ops ≡ length t.ops + 1)
    into true full = tt
    into false true = tt
    into false false = length-append t.ops _

    at : (o : Option Queue) → IfOk (option_map_or (send_into t m number) o (Err op_fault.NoQueue)) (λ next. length next.ops ≡ length t.ops + 1)
    at None = tt
    at (Some q) = into (not q.plan.transactional) (nat_le q.plan.quota (count q.lists))
send_adds t now m (AtPeer k) = at (may_join t.sending k m.destination)
  where
    at : (b : Bool) → IfOk (cond b (Ok (with_joined t now m k (sequence_for t.sending k m.destination now))) (Err op_fault.SequenceSpent)) (λ next. length next.ops ≡ length t.ops + 1)
    at true = length-append t.ops _
    at false = tt
send_adds t now m Nowhere = tt

op_adds : (t : Trial) (now : ℕ) (op : Op) → Adds t (try_op t now op)
op_adds t now (asked.Take name) = at (queue_named t.taking name)
  where
    at : (o : Option ℕ) → IfOk (option_map_or (take_of t now) o (Err op_fault.NoQueue)) (λ next. length next.ops ≡ length t.ops + 1)
    at None = tt
    at (Some number) = take_adds t now number
op_adds t now (asked.Send p) = send_adds t now (message_for t.sending now p) (resolved t.sending (message_for t.sending now p).destination)

ops_add : (now index : ℕ) (t : Trial) (ops : List Op) → IfOk (try_ops now index t ops) (λ last. length last.ops ≡ length t.ops + length ops)
ops_add now index t [] = omega arith
ops_add now index t (op ∷ ops) = at (try_op t now op) (op_adds t now op) (λ next. ops_add now (index + 1) next ops)
  where
    more : (next : Trial) (r : Result Trial CommitFault) → length next.ops ≡ length t.ops + 1 → IfOk r (λ last. length last.ops ≡ length next.ops + length ops)
        → IfOk r (λ last. length last.ops ≡ length t.ops + length (op ∷ ops))
    more next (Err why) one h = tt
    more next (Ok last) one h = omega (arith, one, h)

    at : (r : Result Trial OpFault) → IfOk r (λ next. length next.ops ≡ length t.ops + 1) → ((next : Trial) → IfOk (try_ops now (index + 1) next ops) (λ last. length last.ops ≡ length next.ops + length ops))
        → IfOk (at_op index r >>= λ next. try_ops now (index + 1) next ops) (λ last. length last.ops ≡ length t.ops + length (op ∷ ops))
    at (Err why) one h = tt
    at (Ok next) one h = more next (try_ops now (index + 1) next ops) one (h next)

-- Commits.

pub commit_spelled : (m : Manager) (ops : List Op) (now : ℕ) → IsSpelled (commit m ops now)
commit_spelled m ops now = at (is_down m) (length ops == 0) refl (nat_lt MAX_OPS (length ops)) refl
  where
    not_zero : (n : ℕ) → (n == 0) ≡ false → 1 ≤ n
    not_zero n h = grind (arith, nat_tests)

    at_most : (n limit : ℕ) → nat_lt limit n ≡ false → n ≤ limit
    at_most n limit h = grind (arith, nat_tests)

    -- ops that were tried
    whole : 1 ≤ length ops → length ops ≤ MAX_OPS → (t : Trial) → length t.ops ≡ 0 + length ops → (spent large long : Bool) → nat_lt MAX_RECORD (commit_size t.ops) ≡ long
        → IsSpelled (unless m (cond spent (Some commit_fault.NumbersSpent) (cond (large || long) (Some commit_fault.TooLarge) None)) (recording m (entry.Commit now t.ops) (Ok t.done)))
    whole few many t counted true large long e = tt
    whole few many t counted false true long e = tt
    whole few many t counted false false true e = tt
    whole few many t counted false false false e = (omega (arith, few, counted), omega (arith, many, counted), at_most (commit_size t.ops) MAX_RECORD e)

    tried : 1 ≤ length ops → length ops ≤ MAX_OPS → (r : Result Trial CommitFault) → IfOk r (λ t. length t.ops ≡ 0 + length ops) → IsSpelled (commit_tried m now r)
    tried few many (Err why) h = tt
    tried few many (Ok t) h = whole few many t h (nat_lt (MAX_NUMBER + 1) t.sending.next_number) (list_any (is_too_large headers.TxAndSession) (sends_of t.ops))
        (nat_lt MAX_RECORD (commit_size t.ops)) refl

    at : (down none : Bool) → (length ops == 0) ≡ none → (many : Bool) → nat_lt MAX_OPS (length ops) ≡ many
        → IsSpelled (unless m (cond down (Some commit_fault.Down) (cond none (Some commit_fault.NoOps) (cond many (Some commit_fault.TooManyOps) None))) (commit_tried m now (try_ops now 0 (trial_of m.state) ops)))
    at true none e many f = tt
    at false true e many f = tt
    at false false e true f = tt
    at false false e false f = tried (not_zero (length ops) e) (at_most (length ops) MAX_OPS f) (try_ops now 0 (trial_of m.state) ops) (ops_add now 0 (trial_of m.state) ops)

-- So has that of a send.
pub send_spelled : (m : Manager) (p : Parts) (recoverable : Bool) (now : ℕ) → IsSpelled (send m p recoverable now)
send_spelled m p true now = let message = plain_message m.state true now p in unless_has IsSpellable m (send_refusal m true message) (sending m true message now) tt
send_spelled m p false now = let message = plain_message m.state false now p in unless_has IsSpellable m (send_refusal m false message) (sending m false message now) tt
