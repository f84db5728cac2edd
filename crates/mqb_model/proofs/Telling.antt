-- The records of sends and transactions tell of messages that can be carried.
use Rattle.std.proofs.Common.{refl, sym, subst, arith}
use Rattle.std.proofs.lemmas.Bool.Decides.{nat_tests}
use Rattle.std.proofs.lemmas.List.Elements.{All-from_recursion, filter_map-append, recursion_from_All}
use Rattle.std.specs.List.{AllByRecursion, list_any}
use Rattle.std.specs.Option.{option_map_or, option_or}
use Rattle.std.specs.Prelude.{◌+◌, ◌++◌, ◌||◌, ◌∷◌, ◌≡◌, ◌≤◌, [], All, Bool, Err, IfOk, IsTrue, List, None, Ok, Option, Result, Some, cond, false, length, nat_le, nat_lt, not, slice_get, true, ℕ}
use Rattle.mqb_base.specs.Messages.{IsWellFormed}
use Rattle.mqb_base.specs.QueueNames.{absent_or_queue, names_queue}
use Rattle.mqb_base.specs.declared.draft.DraftFault.{DraftFault}
use Rattle.mqb_base.specs.declared.draft.DraftFault.TheVariants as draft_fault
use Rattle.mqb_base.specs.declared.draft.Op.{Op}
use Rattle.mqb_base.specs.declared.draft.Op.TheVariants as asked
use Rattle.mqb_base.specs.declared.draft.Parts.{Parts}
use Rattle.mqb_base.specs.declared.ids.MessageId.{MessageId}
use Rattle.mqb_base.specs.declared.message.Message.{Message}
use Rattle.mqb_base.specs.declared.message.TheConstants.{MAX_LABEL, MAX_PRIORITY}
use Rattle.mqb_base.specs.declared.bits.TheConstants.{MAX_ACK, MAX_JOURNAL}
use Rattle.mqb_packet.specs.declared.packet.Headers.TheVariants as headers
use Rattle.mqb_packet.specs.mqb_fields.Reading.{◌>>=◌}
use Rattle.mqb_queue.specs.Lists.{count}
use Rattle.mqb_queue.specs.Places.{Queue, numbered}
use Rattle.mqb_model.specs.calls.Commit.{Trial, at_op, commit, commit_tried, first_free, ops_refusal, send_into, send_to, take_first, take_from, take_of, trial_of, try_op, try_ops, with_joined, with_put, with_take}
use Rattle.mqb_model.specs.calls.Messages.{message_for, plain_message}
use Rattle.mqb_model.specs.calls.Send.{plain_entry, send, send_refusal, target_fault}
use Rattle.mqb_model.specs.declared.faults.CommitFault.{CommitFault}
use Rattle.mqb_model.specs.declared.faults.CommitFault.TheVariants as commit_fault
use Rattle.mqb_model.specs.declared.faults.OpFault.{OpFault}
use Rattle.mqb_model.specs.declared.faults.OpFault.TheVariants as op_fault
use Rattle.mqb_model.specs.declared.faults.SendFault.{SendFault}
use Rattle.mqb_model.specs.declared.faults.SendFault.TheVariants as send_fault
use Rattle.mqb_model.specs.declared.limits.TheConstants.{MAX_NUMBER, MAX_RECORD}
use Rattle.mqb_model.specs.declared.target.Target.{Target}
use Rattle.mqb_model.specs.declared.target.Target.TheVariants.{AtPeer, Here, Nowhere}
use Rattle.mqb_model.specs.laws.Fitting.{IsAsRead, IsDrafted, IsDraftedOp}
use Rattle.mqb_model.specs.records.Carrying.{IsRead, IsRecorded}
use Rattle.mqb_model.specs.managers.Beside as beside
use Rattle.mqb_model.specs.managers.Manager.{Manager, is_down}
use Rattle.mqb_model.specs.managers.Outcomes.{changing, recording, unless}
use Rattle.mqb_model.specs.records.Commit.{sends_of, sent_in}
use Rattle.mqb_model.specs.records.Counting.{commit_size}
use Rattle.mqb_model.specs.records.Packets.{in_transaction, is_too_large, packet_to}
use Rattle.mqb_model.specs.records.Record as entry
use Rattle.mqb_model.specs.records.Record.{RecordOp}
use Rattle.mqb_model.specs.rules.Sequences.{may_join, sequence_for}
use Rattle.mqb_model.specs.state.Resolving.{queue_named, resolved}
use Rattle.mqb_model.specs.state.State.{State}
use Rattle.mqb_model.specs.state.Valid.{IsNamed}
use Rattle.mqb_model.proofs.Entered.{unless_has}
use Rattle.mqb_model.proofs.Departing.{tx_bare}
use Rattle.mqb_model.proofs.Followed.{bare_small}
use Rattle.mqb_model.proofs.Members.{all_append}

-- What a sender chooses is well formed.

none_first : (b : Bool) (why : DraftFault) (o : Option DraftFault) → cond b (Some why) o ≡ None → (b ≡ false) × (o ≡ None)
none_first true why o e = absurd (let none : ⊥ = cc in none)
none_first false why o e = (refl, e)

not_false : (b : Bool) → not b ≡ false → b ≡ true
not_false true e = refl
not_false false e = sym e

at_most : (n limit : ℕ) → nat_lt limit n ≡ false → n ≤ limit
at_most n limit h = grind (arith, nat_tests)

-- what a message of a sender has from its parts
pub record IsChosen (p : Parts) : Type 0 where
  pub ack : p.ack ≤ MAX_ACK
  pub journal : p.journal ≤ MAX_JOURNAL
  pub label : length p.label ≤ MAX_LABEL
  pub priority : p.priority ≤ MAX_PRIORITY
  pub destination : IsTrue (names_queue p.destination)
  pub admin : IsTrue (absent_or_queue p.admin)
  pub response : IsTrue (absent_or_queue p.response)

pub chosen : (p : Parts) → IsDrafted p → IsChosen p
chosen p d =
    let a = none_first (not (names_queue p.destination)) draft_fault.Destination _ d.sound in
    let b = none_first (nat_lt MAX_PRIORITY p.priority) draft_fault.Priority _ a.1 in
    let c = none_first (not (absent_or_queue p.admin)) draft_fault.Admin _ b.1 in
    let e = none_first (not (absent_or_queue p.response)) draft_fault.Response _ c.1 in
    let f = none_first (nat_lt MAX_ACK p.ack) draft_fault.Ack _ e.1 in
    let g = none_first (nat_lt MAX_JOURNAL p.journal) draft_fault.Journal _ f.1 in
    let h = none_first (nat_lt MAX_LABEL (length p.label)) draft_fault.Label _ g.1 in
    record {
      ack = at_most p.ack MAX_ACK f.0;
      journal = at_most p.journal MAX_JOURNAL g.0;
      label = at_most (length p.label) MAX_LABEL h.0;
      priority = at_most p.priority MAX_PRIORITY b.0;
      destination = not_false (names_queue p.destination) a.0;
      admin = not_false (absent_or_queue p.admin) c.0;
      response = not_false (absent_or_queue p.response) e.0;
    }

sent_read : (m : Manager) (now : ℕ) (p : Parts) → IsDrafted p → is_too_large headers.Session (plain_message m.state true now p) ≡ false
    → IsRead (plain_entry m.state now (plain_message m.state true now p))
sent_read m now p d small = let well = chosen p d in record {
  well_formed = record {
    priority = well.priority;
    ack = well.ack;
    journal = well.journal;
    label = well.label;
    class = refl;
    destination = well.destination;
    admin = well.admin;
    response = well.response;
  };
  named = record { destination = d.destination; admin = d.admin; response = d.response };
  size = bare_small (plain_message m.state true now p) small;
}

pub send_read : (m : Manager) (p : Parts) (recoverable : Bool) (now : ℕ) → IsDrafted p → IsAsRead (send m p recoverable now)
send_read m p false now d = let message = plain_message m.state false now p in
    unless_has IsRead m (send_refusal m false message) (changing m (beside.SendsExpress now message) (Ok message.id)) tt
send_read m p true now d = at (is_down m) (target_fault m.state (resolved m.state p.destination)) (nat_lt MAX_NUMBER m.state.next_number)
    (is_too_large headers.Session (plain_message m.state true now p)) refl
  where
    message : Message
    message = plain_message m.state true now p

    at : (down : Bool) (led : Option SendFault) (spent large : Bool) → is_too_large headers.Session message ≡ large
        → IsAsRead (unless m (cond down (Some send_fault.Down) (option_or led (cond spent (Some send_fault.NumbersSpent) (cond large (Some send_fault.TooLarge) None))))
        (recording m (plain_entry m.state now message) (Ok message.id)))
    at true led spent large g = tt
    at false (Some why) spent large g = tt
    at false None true large g = tt
    at false None false true g = tt
    at false None false false g = sent_read m now p d g

-- Commits.

-- a message without its size
abbrev IsBorne : Message → Type 0
IsBorne m = IsWellFormed m × IsNamed m

abbrev Borne : List RecordOp → Type 0
Borne ops = AllByRecursion IsBorne (sends_of ops)

borne_take : (ops : List RecordOp) (number : ℕ) (id : MessageId) → Borne ops → Borne (ops ++ entry.Take number id ∷ [])
borne_take ops number id h = subst (AllByRecursion IsBorne) (sym (filter_map-append sent_in ops (entry.Take number id ∷ []))) (all_append IsBorne (sends_of ops) [] h tt)

borne_send : (ops : List RecordOp) (s : State) (to : Target) (now : ℕ) (given : State) (p : Parts) → IsDrafted p → Borne ops
    → Borne (ops ++ entry.Send (packet_to s to (message_for given now p)) ∷ [])
borne_send ops s to now given p d h = subst (AllByRecursion IsBorne) (sym (filter_map-append sent_in ops (entry.Send (packet_to s to (message_for given now p)) ∷ [])))
    (all_append IsBorne (sends_of ops) (in_transaction (packet_to s to (message_for given now p)) ∷ []) h (one, tt))
  where
    one : IsBorne (in_transaction (packet_to s to (message_for given now p)))
    one = let well = chosen p d in (
      record {
        priority = omega arith;
        ack = well.ack;
        journal = well.journal;
        label = well.label;
        class = refl;
        destination = well.destination;
        admin = well.admin;
        response = well.response;
      },
      record { destination = d.destination; admin = d.admin; response = d.response },
    )

take_borne : (t : Trial) (now number : ℕ) → Borne t.ops → IfOk (take_of t now number) (λ next. Borne next.ops)
take_borne t now number h = at (numbered t.taking.places.queues number)
  where
    gone : (k : ℕ) (o : Option Message) → IfOk (option_map_or (λ m. Ok (with_take t number k m)) o (Err op_fault.QueueEmpty)) (λ next. Borne next.ops)
    gone k None = tt
    gone k (Some m) = borne_take t.ops number m.id h

    first : (q : Queue) (o : Option ℕ)
        → IfOk (option_map_or (λ k. option_map_or (λ m. Ok (with_take t number k m)) (slice_get q.lists.durable k) (Err op_fault.QueueEmpty)) o (Err op_fault.QueueEmpty)) (λ next. Borne next.ops)
    first q None = tt
    first q (Some k) = gone k (slice_get q.lists.durable k)

    from : (q : Queue) (b : Bool) → IfOk (cond b (take_first t now number q) (Err op_fault.NotTransactional)) (λ next. Borne next.ops)
    from q true = first q (first_free number now q)
    from q false = tt

    at : (o : Option Queue) → IfOk (option_map_or (take_from t now number) o (Err op_fault.NoQueue)) (λ next. Borne next.ops)
    at None = tt
    at (Some q) = from q q.plan.transactional

send_borne : (t : Trial) (now : ℕ) (p : Parts) (to : Target) → IsDrafted p → Borne t.ops → IfOk (send_to t now (message_for t.sending now p) to) (λ next. Borne next.ops)
send_borne t now p (Here None) d h = tt
send_borne t now p (Here (Some number)) d h = at (numbered t.sending.places.queues number)
  where
    into : (b full : Bool) → IfOk (cond b (Err op_fault.NotTransactional) (cond full (Err op_fault.QueueFull) (Ok (with_put t number (message_for t.sending now p))))) (λ next. Borne next.ops)
    into true full = tt
    into false true = tt
    into false false = borne_send t.ops t.sending (Here (Some number)) now t.sending p d h

    at : (o : Option Queue) → IfOk (option_map_or (send_into t (message_for t.sending now p) number) o (Err op_fault.NoQueue)) (λ next. Borne next.ops)
    at None = tt
    at (Some q) = into (not q.plan.transactional) (nat_le q.plan.quota (count q.lists))
send_borne t now p (AtPeer k) d h = at (may_join t.sending k p.destination)
  where
    at : (b : Bool) → IfOk (cond b (Ok (with_joined t now (message_for t.sending now p) k (sequence_for t.sending k p.destination now))) (Err op_fault.SequenceSpent)) (λ next. Borne next.ops)
    at true = borne_send t.ops t.sending (AtPeer k) now t.sending p d h
    at false = tt
send_borne t now p Nowhere d h = tt

op_borne : (t : Trial) (now : ℕ) (op : Op) → IsDraftedOp op → Borne t.ops → IfOk (try_op t now op) (λ next. Borne next.ops)
op_borne t now (asked.Take name) d h = at (queue_named t.taking name)
  where
    at : (o : Option ℕ) → IfOk (option_map_or (take_of t now) o (Err op_fault.NoQueue)) (λ next. Borne next.ops)
    at None = tt
    at (Some number) = take_borne t now number h
op_borne t now (asked.Send p) d h = send_borne t now p (resolved t.sending p.destination) d h

ops_borne : (now index : ℕ) (t : Trial) (ops : List Op) → AllByRecursion IsDraftedOp ops → Borne t.ops → IfOk (try_ops now index t ops) (λ last. Borne last.ops)
ops_borne now index t [] d h = h
ops_borne now index t (op ∷ ops) d h = at (try_op t now op) (op_borne t now op d.0 h) (λ next b. ops_borne now (index + 1) next ops d.1 b)
  where
    at : (r : Result Trial OpFault) → IfOk r (λ next. Borne next.ops) → ((next : Trial) → Borne next.ops → IfOk (try_ops now (index + 1) next ops) (λ last. Borne last.ops))
        → IfOk (at_op index r >>= λ next. try_ops now (index + 1) next ops) (λ last. Borne last.ops)
    at (Err why) b more = tt
    at (Ok next) b more = more next b

all_small : (ms : List Message) → AllByRecursion IsBorne ms → list_any (is_too_large headers.TxAndSession) ms ≡ false → AllByRecursion IsRecorded ms
all_small [] b f = tt
all_small (m ∷ ms) b f = at (is_too_large headers.TxAndSession m) refl f (all_small ms b.1)
  where
    at : (large : Bool) → is_too_large headers.TxAndSession m ≡ large → (large || list_any (is_too_large headers.TxAndSession) ms) ≡ false
        → (list_any (is_too_large headers.TxAndSession) ms ≡ false → AllByRecursion IsRecorded ms) → AllByRecursion IsRecorded (m ∷ ms)
    at true e f more = absurd (let none : ⊥ = cc in none)
    at false e f more = (tx_bare m (record { well_formed = (b.0).0; named = (b.0).1; size = e }), more f)

pub commit_read : (m : Manager) (ops : List Op) (now : ℕ) → All IsDraftedOp ops → IsAsRead (commit m ops now)
commit_read m ops now d = unless_has IsRead m (ops_refusal m ops) (commit_tried m now (try_ops now 0 (trial_of m.state) ops))
    (tried (try_ops now 0 (trial_of m.state) ops) (ops_borne now 0 (trial_of m.state) ops (recursion_from_All IsDraftedOp ops d) tt))
  where
    whole : (t : Trial) → Borne t.ops → (spent large long : Bool) → list_any (is_too_large headers.TxAndSession) (sends_of t.ops) ≡ large
        → IsAsRead (unless m (cond spent (Some commit_fault.NumbersSpent) (cond (large || long) (Some commit_fault.TooLarge) None)) (recording m (entry.Commit now t.ops) (Ok t.done)))
    whole t b true large long e = tt
    whole t b false true long e = tt
    whole t b false false true e = tt
    whole t b false false false e = All-from_recursion IsRecorded (sends_of t.ops) (all_small (sends_of t.ops) b e)

    tried : (r : Result Trial CommitFault) → IfOk r (λ t. Borne t.ops) → IsAsRead (commit_tried m now r)
    tried (Err why) b = tt
    tried (Ok t) b = whole t b (nat_lt (MAX_NUMBER + 1) t.sending.next_number) (list_any (is_too_large headers.TxAndSession) (sends_of t.ops))
        (nat_lt MAX_RECORD (commit_size t.ops)) refl
