-- Each record, and what is done beside it, keeps fair what a manager keeps.
use Rattle.std.proofs.Common.{refl, ap, sym, subst, ◌∙◌, arith, inl}
use Rattle.std.specs.List.{AllByRecursion}
use Rattle.std.specs.Option.{option_map_or}
use Rattle.std.specs.Prelude.{[], ◌&&◌, ◌+◌, ◌==◌, ◌||◌, ◌∷◌, ◌<◌, ◌≡◌, ◌≤◌, Bool, IfSome, List, None, Option, Some, cond, false, fold, length, max, nat_le, nat_lt, not, option_and_then, position, slice_get, suc, true, zero, ℕ}
use Rattle.mqb_base.specs.Bits.{keeps_dead}
use Rattle.mqb_base.specs.Classes.{is_negative}
use Rattle.mqb_base.specs.declared.class.Class.{Class}
use Rattle.mqb_base.specs.declared.class.TheConstants.Class.{BAD_DESTINATION, MESSAGE_NOT_TRANSACTIONAL, NORMAL, QUEUE_NOT_TRANSACTIONAL, QUOTA_EXCEEDED, REACHED_QUEUE, REACH_TIMEOUT}
use Rattle.mqb_base.specs.declared.heads.TxHead.{TxHead}
use Rattle.mqb_base.specs.declared.ids.MessageId.{MessageId}
use Rattle.mqb_base.specs.declared.ledger.Line.{Line}
use Rattle.mqb_base.specs.declared.ledger.Line.TheVariants as line
use Rattle.mqb_base.specs.declared.message.Delivery.{Delivery}
use Rattle.mqb_base.specs.declared.message.Lane.TheVariants as lane
use Rattle.mqb_base.specs.declared.message.Message.{Message}
use Rattle.mqb_base.specs.declared.queues.EntryPlace.TheVariants as place
use Rattle.mqb_entries.specs.declared.members.Mark.{Mark}
use Rattle.mqb_exactly_once.specs.Words.{In}
use Rattle.mqb_fate.specs.Asking.{is_transactional}
use Rattle.mqb_model.specs.Lists.{first_where, with_changed, with_first_changed, without_first}
use Rattle.mqb_model.specs.declared.limits.TheConstants.{FIRST_EXPRESS}
use Rattle.mqb_model.specs.declared.target.Target.{Target}
use Rattle.mqb_model.specs.declared.target.Target.TheVariants.{AtPeer, Here, Nowhere}
use Rattle.mqb_model.specs.records.Applying.{effect_of}
use Rattle.mqb_model.specs.records.Arrived.{part_made}
use Rattle.mqb_model.specs.records.Commit.{op_taken, send_made, sends_of, takes_made}
use Rattle.mqb_model.specs.records.Decisions.{decided_line, message_decided, stored_line, with_decided}
use Rattle.mqb_model.specs.records.Finals.{dead_for, finished_at, finished_by, finished_row, index_finished, is_offered_as, kept_named, with_finished}
use Rattle.mqb_model.specs.records.Offered.{mark_raised, with_offered}
use Rattle.mqb_model.specs.records.Record.{Part, Record, RecordOp}
use Rattle.mqb_model.specs.records.Record as entry
use Rattle.mqb_model.specs.records.Releases.{has_recoverable, is_released_by, message_released, releases_made, without_recoverable, without_released}
use Rattle.mqb_model.specs.rules.Arrivals.{is_recorded, refusal_by, refusal_of, storing_refusal, target_refusal}
use Rattle.mqb_model.specs.rules.Effects.{Effect, begun, joined}
use Rattle.mqb_model.specs.rules.Notices.{arrived, meets}
use Rattle.mqb_model.specs.rules.Numbers.{numbers_taken, own_id}
use Rattle.mqb_model.specs.rules.Sends.{committed_line, committed_to, delivered, journalled, plain_sent}
use Rattle.mqb_model.specs.rules.Sequences.{join, new_sequence, sequence_for, sequence_in_use, with_kept, with_sequence}
use Rattle.mqb_model.specs.rules.Takes.{taken}
use Rattle.mqb_model.specs.rules.Timeouts.{expires, expiring, expiring_in, message_expired, next_expired, row_expired, rows_expired, with_expired, without_expired}
use Rattle.mqb_model.specs.state.Places.{is_express, placed, put_at}
use Rattle.mqb_model.specs.state.Resolving.{is_for_order_layer, is_here, peer_known, resolved}
use Rattle.mqb_model.specs.state.Rows.{has_ordinal, stream_of, with_row}
use Rattle.mqb_model.specs.state.State.{State}
use Rattle.mqb_orders.specs.Rows.{Row, acknowledged}
use Rattle.mqb_orders.specs.declared.kept.Kept.{Kept}
use Rattle.mqb_packet.specs.declared.packet.UserPacket.{UserPacket}
use Rattle.mqb_queue.specs.Arrival.{length_met, queue_refusal}
use Rattle.mqb_queue.specs.Places.{Queue, numbered}
use Rattle.mqb_history.proofs.Having.{QueueHas}
use Rattle.mqb_history.proofs.Fates.{AllFrom, Frame, HasFate, IsFailureOf, IsFair, IsMetBy, IsRefusal, IsWaiting, Keeps, ListsFair, PlainFair, RowFair, WaitsFairly, fair_more, from_changed, keeps_more, late_fate, normal_fate, reached_fate, refused_fate}
use Rattle.mqb_history.proofs.Fairly.{delivered_keeps, journalled_goes, journalled_keeps, meets_keeps, placed_keeps, put_keeps}
use Rattle.mqb_history.proofs.Lists.{all_append, all_filter, clash, none_some, some_is}
use Rattle.mqb_history.proofs.Staying.{arrived_rows, delivered_rows, journalled_rows, meets_rows}
use Rattle.mqb_history.proofs.Unreleased.{IsHere, changed_all, refusal_here, storing_here, without_all}
use Rattle.mqb_history.proofs.Walks.{IsGiven, IsRightLine, Known, Walks, each_walks, one_line, purged_walks, repeated_walks, taken_walks, ticked_walks}

-- Rows.

first_has : {X : Type 0} (P : X → Type 0) (test : X → Bool) (xs : List X) → AllByRecursion P xs → IfSome (first_where test xs) P
first_has {X} P test xs h = at (position test xs)
  where
    get : (ys : List X) (k : ℕ) → AllByRecursion P ys → IfSome (slice_get ys k) P
    get [] k g = tt
    get (y ∷ ys) zero g = g.0
    get (y ∷ ys) (suc k) g = get ys k g.1

    at : (o : Option ℕ) → IfSome (option_and_then (slice_get xs) o) P
    at None = tt
    at (Some k) = get xs k h

get_row : (T : Line → Type 0) (rows : List Row) (k : ℕ) (row : Row) → slice_get rows k ≡ Some row → AllByRecursion (RowFair T) rows → RowFair T row
get_row T [] k row e h = absurd (none_some e)
get_row T (x ∷ xs) zero row e h = subst (RowFair T) (some_is x row e) h.0
get_row T (x ∷ xs) (suc k) row e h = get_row T xs k row e h.1

-- the rows are others
outs_keeps : (f : Frame) (T : Line → Type 0) (s : State) (rows : List Row) → AllByRecursion (RowFair T) rows → Keeps f T s → Keeps f T (record s { outs = rows })
outs_keeps f T s rows g h = record { own = h.own; order = h.order; low = h.low; high = h.high; express = h.express; places = h.places; goes = h.goes; same = h.same; plain = h.plain; outs = g }

some_at : {X : Type 0} (P : X → Type 0) (o : Option X) (x : X) → o ≡ Some x → IfSome o P → P x
some_at P o x e h = subst (λ y. IfSome y P) e h

expired_walks : (f : Frame) (ls : List Line) (now k : ℕ) (e : Effect) → Walks f ls e → Walks f ls (next_expired now k e)
expired_walks f ls now k e h = at (slice_get e.state.outs k) refl
  where
    one : (row : Row) → slice_get e.state.outs k ≡ Some row → (kept : Kept) → expiring now row ≡ Some kept → Walks f ls (joined e (message_expired now k e.state row kept))
    one row there kept first = one_line f ls e l (meets (with_expired now e.state k) kept.message REACH_TIMEOUT now)
        (λ T old known g. meets_keeps f T (with_expired now e.state k) kept.message REACH_TIMEOUT now
        (some_at (λ (x : Kept). IsFair T x.message) (expiring now row) kept first (first_has (λ (x : Kept). IsFair T x.message) (expires now row) row.kept (get_row T e.state.outs k row there g.outs)))
        (late_fate T kept.message.id (inl (l, known, refl)) (inl (l, known, refl)))
        (outs_keeps f T e.state (with_changed (without_expired now) e.state.outs k)
        (changed_all (RowFair T) (without_expired now) e.state.outs k (λ x d. without_all (λ (y : Kept). IsFair T y.message) (expires now x) x.kept d) g.outs) g))
        (meets_rows (with_expired now e.state k) kept.message REACH_TIMEOUT now).numbers tt h
      where
        l : Line
        l = line.Expired (stream_of e.state row) kept.number kept.message.id now

    by : (row : Row) → slice_get e.state.outs k ≡ Some row → (o : Option Kept) → expiring now row ≡ o → Walks f ls (option_map_or (λ kept. joined e (message_expired now k e.state row kept)) o e)
    by row there None first = h
    by row there (Some kept) first = one row there kept first

    at : (o : Option Row) → slice_get e.state.outs k ≡ o → Walks f ls (option_map_or (λ row. option_map_or (λ kept. joined e (message_expired now k e.state row kept)) (expiring now row) e) o e)
    at None there = h
    at (Some row) there = by row there (expiring now row) refl

expiring_walks : (f : Frame) (ls : List Line) (now : ℕ) (e : Effect) → Walks f ls e → Walks f ls (rows_expired now e)
expiring_walks f ls now e h = each_walks (Walks f ls) (row_expired now)
    (λ k d g. repeated_walks (Walks f ls) (next_expired now k) (expired_walks f ls now k) (option_map_or (expiring_in now) (slice_get d.state.outs k) 0) d g) (length e.state.outs) e h

-- Releases.

released_keeps : (f : Frame) (T : Line → Type 0) (s : State) (number : ℕ) → Keeps f T s → Keeps f T (without_released s number)
released_keeps f T s number h = record { own = h.own; order = h.order; low = h.low; high = h.high; express = h.express; places = h.places; goes = h.goes; same = h.same; plain = at (position (has_recoverable s number) s.plain); outs = h.outs }
  where
    at : (o : Option ℕ) → AllFrom (PlainFair f T h.goes s.next_number) 0 (option_map_or (with_changed (without_recoverable s number) s.plain) o s.plain)
    at None = h.plain
    at (Some k) = from_changed (PlainFair f T h.goes s.next_number) (without_recoverable s number) s.plain k
        (λ p g. record { recoverable = without_all (WaitsFairly f T h.goes s.next_number k) (is_released_by s number) p.recoverable g.recoverable; express = g.express }) h.plain

releases_walk : (f : Frame) (ls : List Line) (e : Effect) (numbers : List ℕ) → Walks f ls e → Walks f ls (fold message_released e numbers)
releases_walk f ls e [] h = h
releases_walk f ls e (n ∷ ns) h = releases_walk f ls (message_released e n) ns
    (one_line f ls e (line.Released (own_id e.state n)) (without_released e.state n) (λ T old known g. released_keeps f T e.state n g) (omega arith) tt h)

-- Transactions.

ops_walk : (f : Frame) (ls : List Line) (now : ℕ) (e : Effect) (ops : List RecordOp) → Walks f ls e → Walks f ls (fold (op_taken now) e ops)
ops_walk f ls now e [] h = h
ops_walk f ls now e (entry.Send p ∷ ops) h = ops_walk f ls now e ops h
ops_walk f ls now e (entry.Take queue id ∷ ops) h = ops_walk f ls now (taken (place.Queue queue) id now e) ops (taken_walks f ls (place.Queue queue) id now e h)

-- a message as a sender makes it, which is not express
abbrev pub IsSent : Message → Type 0
IsSent m = (m.class ≡ NORMAL) × (is_express m.delivery ≡ false)

pub sent_fair : (T : Line → Type 0) (m : Message) → m.class ≡ NORMAL → (is_express m.delivery ≡ true → FIRST_EXPRESS ≤ m.id.number)
    → (is_express m.delivery ≡ false → m.id.number < FIRST_EXPRESS) → IsFair T m
sent_fair T m e express durable = record { fate = subst (HasFate T m.correlation) (sym e) (normal_fate T m.correlation); express = express; durable = durable }

send_fair : (T : Line → Type 0) (m : Message) → IsSent m → m.id.number < FIRST_EXPRESS → IsFair T m
send_fair T m h low = sent_fair T m h.0 (λ e. absurd (clash (sym e ∙ h.1))) (λ e. low)

join_keeps : (f : Frame) (T : Line → Type 0) (s : State) (peer now : ℕ) (m : Message) → IsFair T m → Keeps f T s → Keeps f T (join s peer now m)
join_keeps f T s peer now m g h = at (sequence_in_use s peer m.destination)
  where
    more : (row : Row) → RowFair T row → RowFair T (with_kept m row)
    more row d = all_append (λ (k : Kept). IsFair T k.message) row.kept (record { number = row.committed + 1; message = m } ∷ []) d (g, tt)

    first : (rows : List Row) (ordinal : ℕ) → AllByRecursion (RowFair T) rows → AllByRecursion (RowFair T) (with_first_changed (with_kept m) (has_ordinal ordinal) rows)
    first rows ordinal d = by (position (has_ordinal ordinal) rows)
      where
        by : (o : Option ℕ) → AllByRecursion (RowFair T) (option_map_or (with_changed (with_kept m) rows) o rows)
        by None = d
        by (Some k) = changed_all (RowFair T) (with_kept m) rows k more d

    at : (o : Option Row) → Keeps f T (option_map_or (λ row. with_row (with_kept m) s row.sequence.ordinal) o (with_sequence s (with_kept m (new_sequence s peer m.destination now))))
    at None = record {
      own = h.own;
      order = h.order;
      low = h.low;
      high = h.high;
      express = h.express;
      places = h.places;
      goes = h.goes;
      same = h.same;
      plain = h.plain;
      outs = all_append (RowFair T) s.outs (with_kept m (new_sequence s peer m.destination now) ∷ []) h.outs ((g, tt), tt);
    }
    at (Some row) = record {
      own = h.own;
      order = h.order;
      low = h.low;
      high = h.high;
      express = h.express;
      places = h.places;
      goes = h.goes;
      same = h.same;
      plain = h.plain;
      outs = first s.outs row.sequence.ordinal h.outs;
    }

join_numbers : (s : State) (peer now : ℕ) (m : Message) → (join s peer now m).next_number ≡ s.next_number
join_numbers s peer now m = at (sequence_in_use s peer m.destination)
  where
    at : (o : Option Row) → (option_map_or (λ row. with_row (with_kept m) s row.sequence.ordinal) o (with_sequence s (with_kept m (new_sequence s peer m.destination now)))).next_number ≡ s.next_number
    at None = refl
    at (Some row) = refl

not_here : (queue : Option ℕ) (k : ℕ) → Here queue ≡ AtPeer k → ⊥
not_here queue k e = let none : ⊥ = cc in none

not_nowhere : (k : ℕ) → Nowhere ≡ AtPeer k → ⊥
not_nowhere k e = let none : ⊥ = cc in none

sends_walk : (f : Frame) (ls : List Line) (now : ℕ) (e : Effect) (ms : List Message) → AllByRecursion (λ m. IsSent m × IsGiven f m.id) ms → Walks f ls e → Walks f ls (fold (send_made now) e ms)
sends_walk f ls now e [] fair h = h
sends_walk f ls now e (m ∷ ms) fair h = sends_walk f ls now (send_made now e m) ms fair.1 (at (resolved e.state m.destination))
  where
    s : State
    s = journalled e.state m

    same : e.state.next_number ≤ s.next_number
    same = (journalled_rows e.state m).numbers

    low : m.id.number < FIRST_EXPRESS
    low = let lt = fair.0.1.below in let base = h.keeps.low in let high = h.keeps.high in omega (arith, lt, base, high)

    at : (t : Target) → Walks f ls (joined e (committed_to now s t m))
    at (AtPeer k) = one_line f ls e (committed_line s (sequence_for s k m.destination now) m) (join s k now m)
        (λ T old known g. join_keeps f T s k now m (send_fair T m fair.0.0 low) (journalled_keeps f T e.state m (send_fair T m fair.0.0 low) g))
        (let n = join_numbers s k now m in omega (arith, n, same)) fair.0.1 h
    at (Here queue) = one_line f ls e (line.Local m.id) (delivered s (Here queue) m now)
        (λ T old known g. delivered_keeps f T s (Here queue) m now (journalled_keeps f T e.state m (send_fair T m fair.0.0 low) g) (send_fair T m fair.0.0 low) (λ k other. absurd (not_here queue k other)))
        (let n = (delivered_rows s (Here queue) m now).numbers in omega (arith, n, same)) fair.0.1 h
    at Nowhere = one_line f ls e (line.Local m.id) (delivered s Nowhere m now)
        (λ T old known g. delivered_keeps f T s Nowhere m now (journalled_keeps f T e.state m (send_fair T m fair.0.0 low) g) (send_fair T m fair.0.0 low) (λ k other. absurd (not_nowhere k other)))
        (let n = (delivered_rows s Nowhere m now).numbers in omega (arith, n, same)) fair.0.1 h

-- Arrivals.

-- classes of refusals
queue_refuses : (q : Queue) (messages : ℕ) (t : Bool) → IfSome (queue_refusal q.plan messages t) IsRefusal
queue_refuses q messages t = at (t && not q.plan.transactional) (not t && q.plan.transactional) (nat_le q.plan.quota messages)
  where
    at : (a b c : Bool) → IfSome (cond a (Some QUEUE_NOT_TRANSACTIONAL) (cond b (Some MESSAGE_NOT_TRANSACTIONAL) (cond c (Some QUOTA_EXCEEDED) None))) IsRefusal
    at true b c = refl
    at false true c = refl
    at false false true = refl
    at false false false = tt

target_refuses : (s : State) (t : Target) (x : Delivery) → IfSome (target_refusal s t x) IsRefusal
target_refuses s (Here (Some n)) x = at (numbered s.places.queues n)
  where
    at : (o : Option Queue) → IfSome (option_map_or (refusal_by x) o (Some BAD_DESTINATION)) IsRefusal
    at None = refl
    at (Some q) = queue_refuses q (length_met (is_recorded x) q.lists) (is_transactional x)
target_refuses s t x = refl

pub arrival_refuses : (s : State) (p : UserPacket) → IfSome (refusal_of s p) IsRefusal
arrival_refuses s p = at (p.remaining == 0)
  where
    at : (b : Bool) → IfSome (cond b (Some REACH_TIMEOUT) (target_refusal s (resolved s p.message.destination) p.message.delivery)) IsRefusal
    at true = refl
    at false = target_refuses s (resolved s p.message.destination) p.message.delivery

storing_refuses : (s : State) (p : UserPacket) → IfSome (storing_refusal s p) IsRefusal
storing_refuses s p = at (is_for_order_layer s p.message.destination)
  where
    at : (b : Bool) → IfSome (cond b (Some BAD_DESTINATION) (refusal_of s p)) IsRefusal
    at true = refl
    at false = arrival_refuses s p

arrives_keeps : (f : Frame) (T : Line → Type 0) (s : State) (m : Message) (now : ℕ) (refusal : Option Class) → IsFair T m → (refusal ≡ None → IsHere (resolved s m.destination))
    → IfSome refusal (HasFate T m.id) → Keeps f T s → Keeps f T (arrived s m now refusal)
arrives_keeps f T s m now (Some class) fair here fate h = meets_keeps f T s m class now fair fate h
arrives_keeps f T s m now None fair here fate h = subst (λ t. Keeps f T (meets (placed s t m) m REACHED_QUEUE now)) (sym (here refl).1)
    (meets_keeps f T (placed s (Here (Some (here refl).0)) m) m REACHED_QUEUE now fair (reached_fate T m.id)
    (placed_keeps f T s (Here (Some (here refl).0)) m h fair (λ k other. absurd (not_here (Some (here refl).0) k other))))

fate_of : (T : Line → Type 0) (id : MessageId) (refusal : Option Class) (says : Option Class → Line) → T (says refusal) → ((class : Class) → IsFailureOf id (says (Some class)))
    → ((class : Class) → IsMetBy class id (says (Some class))) → IfSome refusal IsRefusal → IfSome refusal (HasFate T id)
fate_of T id None says known of met refuses = tt
fate_of T id (Some class) says known of met refuses = refused_fate T id class refuses (inl (says (Some class), known, of class)) (inl (says (Some class), known, met class))

decided_walks : (f : Frame) (ls : List Line) (now : ℕ) (e : Effect) (p : UserPacket) (tx : TxHead) → IsFair (λ l. In l ls) p.message → Walks f ls e → Walks f ls (joined e (message_decided now e.state p tx))
decided_walks f ls now e p tx fair h = one_line f ls e (decided_line m tx refusal) (arrived t m now refusal)
    (λ T old known g. arrives_keeps f T t m now refusal (fair_more (λ l. In l ls) T old m fair) (refusal_here e.state p) (fate_of T m.id refusal (decided_line m tx) known (λ class. refl) (λ class. (refl, refl)) (arrival_refuses e.state p)) (begins T g))
    (arrived_rows t m now refusal).numbers (rightly refusal) h
  where
    m : Message
    m = p.message

    refusal : Option Class
    refusal = refusal_of e.state p

    t : State
    t = with_decided e.state m tx

    begins : (T : Line → Type 0) → Keeps f T e.state → Keeps f T t
    begins T g = record { own = g.own; order = g.order; low = g.low; high = g.high; express = g.express; places = g.places; goes = g.goes; same = g.same; plain = g.plain; outs = g.outs }

    rightly : (o : Option Class) → IsRightLine f (arrived t m now refusal).next_number (decided_line m tx o)
    rightly None = tt
    rightly (Some class) = tt

stored_walks : (f : Frame) (ls : List Line) (now : ℕ) (e : Effect) (p : UserPacket) → IsFair (λ l. In l ls) p.message → Walks f ls e → Walks f ls (part_made now e (entry.Stored p))
stored_walks f ls now e p fair h = one_line f ls e (stored_line m refusal) (arrived e.state m now refusal)
    (λ T old known g. arrives_keeps f T e.state m now refusal (fair_more (λ l. In l ls) T old m fair) (storing_here e.state p)
    (fate_of T m.id refusal (stored_line m) known (λ class. refl) (λ class. refl) (storing_refuses e.state p)) g)
    (arrived_rows e.state m now refusal).numbers (rightly refusal) h
  where
    m : Message
    m = p.message

    refusal : Option Class
    refusal = storing_refusal e.state p

    rightly : (o : Option Class) → IsRightLine f (arrived e.state m now refusal).next_number (stored_line m o)
    rightly None = tt
    rightly (Some class) = tt

-- final acknowledgements

finished_keeps : (f : Frame) (T : Line → Type 0) (s : State) (m : Message) (index : ℕ) → Keeps f T s → Keeps f T (finished_at s m index)
finished_keeps f T s m index h = at (slice_get s.outs index) refl
  where
    fewer : (k : Kept) (row : Row) → RowFair T row → RowFair T (finished_row m.correlation k.number row)
    fewer k row g = all_filter (λ (x : Kept). IsFair T x.message) (λ (x : Kept). nat_lt (max row.acked k.number) x.number || keeps_dead x.message)
        (without_first (is_offered_as m.correlation row) row.kept) (without_all (λ (x : Kept). IsFair T x.message) (is_offered_as m.correlation row) row.kept g)

    left : (k : Kept) → Keeps f T (with_finished m.correlation s index k)
    left k = outs_keeps f T s (with_changed (finished_row m.correlation k.number) s.outs index) (changed_all (RowFair T) (finished_row m.correlation k.number) s.outs index (fewer k) h.outs) h

    dead : (k : Kept) → IsFair T k.message → (b : Bool) → Keeps f T (cond b (put_at (with_finished m.correlation s index k) place.DeadXact k.message) (with_finished m.correlation s index k))
    dead k g true = put_keeps f T (with_finished m.correlation s index k) place.DeadXact k.message g (left k)
    dead k g false = left k

    by : (o : Option Kept) → IfSome o (λ k. IsFair T k.message) → Keeps f T (option_map_or (λ k. dead_for m.class (with_finished m.correlation s index k) k.message) o s)
    by None g = h
    by (Some k) g = dead k g (is_negative m.class.0)

    at : (o : Option Row) → slice_get s.outs index ≡ o → Keeps f T (option_map_or (λ k. dead_for m.class (with_finished m.correlation s index k) k.message) (option_and_then (kept_named m.correlation) o) s)
    at None e = h
    at (Some row) e = by (kept_named m.correlation row) (first_has (λ (k : Kept). IsFair T k.message) (is_offered_as m.correlation row) row.kept (get_row T s.outs index row e h.outs))

finals_keep : (f : Frame) (T : Line → Type 0) (s : State) (m : Message) → Keeps f T s → Keeps f T (option_map_or (λ peer. finished_by s peer m) (peer_known s m.id.qm) s)
finals_keep f T s m h = at (peer_known s m.id.qm)
  where
    by : (peer : ℕ) (o : Option ℕ) → Keeps f T (option_map_or (finished_at s m) o s)
    by peer None = h
    by peer (Some index) = finished_keeps f T s m index h

    at : (o : Option ℕ) → Keeps f T (option_map_or (λ peer. finished_by s peer m) o s)
    at None = h
    at (Some peer) = by peer (index_finished s peer m)

finals_number : (s : State) (m : Message) → (option_map_or (λ peer. finished_by s peer m) (peer_known s m.id.qm) s).next_number ≡ s.next_number
finals_number s m = at (peer_known s m.id.qm)
  where
    dead : (k : Kept) (index : ℕ) (b : Bool) → (cond b (put_at (with_finished m.correlation s index k) place.DeadXact k.message) (with_finished m.correlation s index k)).next_number ≡ s.next_number
    dead k index true = refl
    dead k index false = refl

    one : (index : ℕ) (o : Option Kept) → (option_map_or (λ k. dead_for m.class (with_finished m.correlation s index k) k.message) o s).next_number ≡ s.next_number
    one index None = refl
    one index (Some k) = dead k index (is_negative m.class.0)

    by : (peer : ℕ) (o : Option ℕ) → (option_map_or (finished_at s m) o s).next_number ≡ s.next_number
    by peer None = refl
    by peer (Some index) = one index (option_and_then (kept_named m.correlation) (slice_get s.outs index))

    at : (o : Option ℕ) → (option_map_or (λ peer. finished_by s peer m) o s).next_number ≡ s.next_number
    at None = refl
    at (Some peer) = by peer (index_finished s peer m)

-- the message of a part is fair
abbrev pub PartFair : (Line → Type 0) → Part → Type 0
PartFair T (entry.Decided p) = IsFair T p.message
PartFair T (entry.Stored p) = IsFair T p.message
PartFair T _ = Unit {0}

quiet_walks : (f : Frame) (ls : List Line) (e : Effect) (s : State) → ((T : Line → Type 0) → Keeps f T e.state → Keeps f T s) → s.next_number ≡ e.state.next_number → Walks f ls e
    → Walks f ls (record { state = s; lines = e.lines })
quiet_walks f ls e s make same h = record { keeps = make (Known ls e) h.keeps; lapsed = subst (λ n. AllByRecursion (IsRightLine f n) e.lines) (sym same) h.lapsed }

part_walks : (f : Frame) (ls : List Line) (now : ℕ) (e : Effect) (part : Part) → PartFair (λ l. In l ls) part → Walks f ls e → Walks f ls (part_made now e part)
part_walks f ls now e entry.Nothing fair h = h
part_walks f ls now e (entry.Decided p) fair h = at p.tx
  where
    at : (o : Option TxHead) → Walks f ls (option_map_or (λ tx. joined e (message_decided now e.state p tx)) o e)
    at None = h
    at (Some tx) = decided_walks f ls now e p tx fair h
part_walks f ls now e (entry.Stored p) fair h = stored_walks f ls now e p fair h
part_walks f ls now e (entry.OrderAcknowledged ordinal number) fair h = quiet_walks f ls e (with_row (acknowledged number) e.state ordinal)
    (λ T g. outs_keeps f T e.state (with_first_changed (acknowledged number) (has_ordinal ordinal) e.state.outs) (first T (position (has_ordinal ordinal) e.state.outs) g.outs) g) refl h
  where
    fewer : (T : Line → Type 0) (row : Row) → RowFair T row → RowFair T (acknowledged number row)
    fewer T row g = all_filter (λ (x : Kept). IsFair T x.message) (λ (x : Kept). nat_lt (max row.acked number) x.number || keeps_dead x.message) row.kept g

    first : (T : Line → Type 0) (o : Option ℕ) → AllByRecursion (RowFair T) e.state.outs → AllByRecursion (RowFair T) (option_map_or (with_changed (acknowledged number) e.state.outs) o e.state.outs)
    first T None g = g
    first T (Some k) g = changed_all (RowFair T) (acknowledged number) e.state.outs k (fewer T) g
part_walks f ls now e (entry.Final p) fair h = one_line f ls e (line.Stored p.message.id) (option_map_or (λ peer. finished_by e.state peer p.message) (peer_known e.state p.message.id.qm) e.state)
    (λ T old known g. finals_keep f T e.state p.message g) (let n = finals_number e.state p.message in omega (arith, n)) tt h

-- Marks.

marks_keep : (f : Frame) (T : Line → Type 0) (s : State) (marks : List Mark) → Keeps f T s → Keeps f T (fold mark_raised s marks)
marks_keep f T s [] h = h
marks_keep f T s (mark ∷ marks) h = marks_keep f T (mark_raised s mark) marks
    (outs_keeps f T s (with_first_changed (with_offered mark.number) (has_ordinal mark.ordinal) s.outs) (at (position (has_ordinal mark.ordinal) s.outs)) h)
  where
    at : (o : Option ℕ) → AllByRecursion (RowFair T) (option_map_or (with_changed (with_offered mark.number) s.outs) o s.outs)
    at None = h.outs
    at (Some k) = changed_all (RowFair T) (with_offered mark.number) s.outs k (λ row g. g) h.outs

-- Records.

-- the state with the numbers of a record's own messages taken
abbrev pub numbered_for : State → Record → State
numbered_for s (entry.Commit now ops) = numbers_taken s (length (sends_of ops))
numbered_for s (entry.Plain now p) = numbers_taken s 1
numbered_for s _ = s

-- its messages are fair, and a plain one may wait
abbrev pub RecordFair : Frame → (ℕ → ℕ) → (Line → Type 0) → State → Record → Type 0
RecordFair f goes T s (entry.Commit now ops) = AllByRecursion (λ m. IsSent m × IsGiven f m.id) (sends_of ops)
RecordFair f goes T s (entry.Plain now p) = IsSent p.message × ((k : ℕ) → resolved s p.message.destination ≡ AtPeer k → IsWaiting f goes (s.next_number + 1) k p.message)
    × (is_here (resolved s p.message.destination) ≡ true → IsGiven f p.message.id) × (p.message.id.number < FIRST_EXPRESS)
RecordFair f goes T s (entry.Arrived now numbers part) = PartFair T part
RecordFair f goes T s (entry.Peer peer) = ⊥
RecordFair f goes T s _ = Unit {0}

begins_walk : (f : Frame) (ls : List Line) (s : State) → Keeps f (λ l. In l ls) s → Walks f ls (begun s)
begins_walk f ls s h = record { keeps = keeps_more f (λ l. In l ls) (Known ls (begun s)) (λ l i. inl i) s h; lapsed = tt }

pub record_walks : (f : Frame) (ls : List Line) (s : State) (r : Record) (h : Keeps f (λ l. In l ls) (numbered_for s r)) → RecordFair f h.goes (λ l. In l ls) s r → Walks f ls (effect_of s r)
record_walks f ls s (entry.Identity identity) h fair = begins_walk f ls s h
record_walks f ls s (entry.Peer peer) h fair = absurd fair
record_walks f ls s (entry.CreateQueue number plan) h fair = begins_walk f ls _ (record {
  own = h.own;
  order = h.order;
  low = h.low;
  high = h.high;
  express = h.express;
  places = record {
    queues = all_append (QueueHas (ListsFair (λ l. In l ls))) s.places.queues (record { plan = plan; lists = record { durable = []; express = [] }; journal = record { durable = []; express = [] } } ∷ [])
        h.places.queues ((record { durable = tt; express = tt }, record { durable = tt; express = tt }), tt);
    dead = h.places.dead;
    dead_xact = h.places.dead_xact;
    journal = h.places.journal;
  };
  goes = h.goes;
  same = h.same;
  plain = h.plain;
  outs = h.outs;
})
record_walks f ls s (entry.Commit now ops) h fair = sends_walk f ls now (takes_made s now ops) (sends_of ops) fair
    (ops_walk f ls now (begun (numbers_taken s (length (sends_of ops)))) ops (begins_walk f ls (numbers_taken s (length (sends_of ops))) h))
record_walks f ls s (entry.Plain now p) h fair = record {
  keeps = keeps_more f (λ l. In l ls) (Known ls (effect_of s (entry.Plain now p))) (λ l i. inl i) (plain_sent t p.message now)
      (delivered_keeps f (λ l. In l ls) (journalled t p.message) (resolved t p.message.destination) p.message now copied sent
      (λ k to. (sent, λ e. waits k (fair.1 k to))));
  lapsed = at (is_here (resolved s p.message.destination)) fair.2;
}
  where
    t : State
    t = numbers_taken s 1

    sent : IsFair (λ l. In l ls) p.message
    sent = send_fair (λ l. In l ls) p.message fair.0 fair.3

    copied : Keeps f (λ l. In l ls) (journalled t p.message)
    copied = journalled_keeps f (λ l. In l ls) t p.message sent h

    waits : (k : ℕ) → IsWaiting f h.goes (s.next_number + 1) k p.message → IsWaiting f copied.goes (journalled t p.message).next_number k p.message
    waits k g = let le = (journalled_rows t p.message).numbers in record {
      durable = g.durable;
      source = g.source;
      below = let lt = g.below in omega (arith, le, lt);
      place = ap (λ (x : ℕ → ℕ). x p.message.id.number) (journalled_goes f (λ l. In l ls) t p.message sent h) ∙ g.place;
      known = g.known;
    }

    at : (b : Bool) → (b ≡ true → IsGiven f p.message.id) → AllByRecursion (IsRightLine f (plain_sent t p.message now).next_number) (cond b (line.Local p.message.id ∷ []) [])
    at true given = (given refl, tt)
    at false given = tt
record_walks f ls s (entry.Offered marks) h fair = begins_walk f ls (fold mark_raised s marks) (marks_keep f (λ l. In l ls) s marks h)
record_walks f ls s (entry.Arrived now numbers part) h fair = part_walks f ls now (releases_made s numbers) part fair (releases_walk f ls (begun s) numbers (begins_walk f ls s h))
record_walks f ls s (entry.Taken now at id) h fair = taken_walks f ls at id now (begun s) (begins_walk f ls s h)
record_walks f ls s (entry.Purged now at) h fair = purged_walks lane.Durable f ls at now (begun s) (begins_walk f ls s h)
record_walks f ls s (entry.Ticked now) h fair = ticked_walks lane.Durable f ls now (rows_expired now (begun s)) (expiring_walks f ls now (begun s) (begins_walk f ls s h))
record_walks f ls s (entry.Set setting) h fair = begins_walk f ls _ (record { own = h.own; order = h.order; low = h.low; high = h.high; express = h.express; places = h.places; goes = h.goes; same = h.same; plain = h.plain; outs = h.outs })
