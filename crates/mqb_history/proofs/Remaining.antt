-- Each record lets no more copies of a message leave queues, be there, or wait for peers, than its lines say came, and than it sends.
use Rattle.std.proofs.Common.{refl, ap, sym, subst, ◌∙◌, arith}
use Rattle.std.specs.Option.{option_map_or}
use Rattle.std.specs.Prelude.{[], ◌+◌, ◌∷◌, ◌≡◌, ◌≤◌, Bool, List, None, Option, Some, cond, false, fold, length, option_and_then, option_map, slice_get, suc, true, zero, ℕ}
use Rattle.mqb_base.specs.Bits.{keeps_copy}
use Rattle.mqb_base.specs.Classes.{is_negative}
use Rattle.mqb_base.specs.declared.class.Class.{Class}
use Rattle.mqb_base.specs.declared.class.TheConstants.Class.{QUEUE_PURGED, REACHED_QUEUE, REACH_TIMEOUT, RECEIVED, RECEIVE_TIMEOUT}
use Rattle.mqb_base.specs.declared.heads.SessionHead.{SessionHead}
use Rattle.mqb_base.specs.declared.heads.TxHead.{TxHead}
use Rattle.mqb_base.specs.declared.ids.MessageId.{MessageId}
use Rattle.mqb_base.specs.declared.ledger.Line.{Line}
use Rattle.mqb_base.specs.declared.ledger.Line.TheVariants as line
use Rattle.mqb_base.specs.declared.message.Delivery.TheVariants as delivery
use Rattle.mqb_base.specs.declared.message.Lane.{Lane}
use Rattle.mqb_base.specs.declared.message.Lane.TheVariants as lane
use Rattle.mqb_base.specs.declared.message.Message.{Message}
use Rattle.mqb_base.specs.declared.queues.EntryPlace.{EntryPlace}
use Rattle.mqb_base.specs.declared.queues.EntryPlace.TheVariants as place
use Rattle.mqb_entries.specs.declared.members.Mark.{Mark}
use Rattle.mqb_model.specs.Loops.{for_each_below, repeated}
use Rattle.mqb_model.specs.declared.target.Target.{Target}
use Rattle.mqb_model.specs.declared.target.Target.TheVariants.{AtPeer, Here, Nowhere}
use Rattle.mqb_model.specs.managers.Beside.{Beside, Origin, all_unmarked, express_sent, noted, noted_as, with_marked, without_acked}
use Rattle.mqb_model.specs.managers.Beside as beside
use Rattle.mqb_model.specs.records.Applying.{apply, effect_of, lines_of}
use Rattle.mqb_model.specs.records.Arrived.{part_made}
use Rattle.mqb_model.specs.records.Commit.{op_taken, send_made, sends_numbered, sends_of, takes_made}
use Rattle.mqb_model.specs.records.Decisions.{decided_line, message_decided, stored_line, with_decided}
use Rattle.mqb_model.specs.records.Finals.{dead_for, finished_at, finished_by, index_finished, kept_named, with_finished}
use Rattle.mqb_model.specs.records.Offered.{mark_raised}
use Rattle.mqb_model.specs.records.Record.{Part, Record, RecordOp}
use Rattle.mqb_model.specs.records.Record as entry
use Rattle.mqb_model.specs.records.Releases.{has_recoverable, message_released, releases_made, without_recoverable, without_released}
use Rattle.mqb_model.specs.rules.Arrivals.{refusal_of, storing_refusal}
use Rattle.mqb_model.specs.rules.Effects.{Effect, begun, joined, with_line}
use Rattle.mqb_model.specs.rules.Notices.{arrived, meets}
use Rattle.mqb_model.specs.rules.Numbers.{number_taken, own_id}
use Rattle.mqb_model.specs.rules.Purges.{count_at, message_purged, oldest_purged, purged}
use Rattle.mqb_model.specs.rules.Sends.{committed_line, committed_to, delivered, journalled, plain_sent}
use Rattle.mqb_model.specs.rules.Sequences.{join, new_sequence, sequence_for, sequence_in_use, with_kept, with_sequence}
use Rattle.mqb_model.specs.rules.Takes.{after_take, copied, message_at, message_taken, taken, taken_at}
use Rattle.mqb_model.specs.rules.Timeouts.{expiring, expiring_in, lane_ticked, lapsing, lapsing_in, message_expired, message_lapsed, message_swept, next_expired, next_lapsed, next_swept, peer_lapsed, queue_swept, row_expired, rows_expired, sweeping, sweeping_in, with_expired}
use Rattle.mqb_model.specs.state.Places.{is_express, placed, put_at, with_plain, without_at}
use Rattle.mqb_model.specs.state.Resolving.{is_here, peer_known, resolved}
use Rattle.mqb_model.specs.state.Rows.{stream_of, with_row}
use Rattle.mqb_model.specs.state.State.{State}
use Rattle.mqb_orders.specs.Rows.{Row}
use Rattle.mqb_orders.specs.declared.kept.Kept.{Kept}
use Rattle.mqb_plain.specs.Plain.{PlainLists, no_plain, outgoing_in, without}
use Rattle.mqb_plain.specs.declared.outgoing.Outgoing.{Outgoing}
use Rattle.mqb_queue.specs.First.{index_named, is_queue}
use Rattle.mqb_queue.specs.Lists.{Lists, messages_in}
use Rattle.mqb_queue.specs.Lists as held
use Rattle.mqb_queue.specs.Places.{Queue, lists_at, new_queue, numbered}
use Rattle.mqb_history.proofs.Carrying.{numbered_suc}
use Rattle.mqb_history.proofs.Fated.{numbered_for}
use Rattle.mqb_history.proofs.Lists.{clash, none_some}
use Rattle.mqb_history.proofs.Owned.{in_list, in_plain, marked_waits, released_waits, tally_changed, tally_first_changed, tally_mapped, unmarked_waits, without_waits}
use Rattle.mqb_history.proofs.Queued.{Moves, Still, meets_still, more_moves, moves_then, placed_moves, put_aside, stays, still_if, still_or, still_then, then_still, without_number}
use Rattle.mqb_history.proofs.Tallies.{arrives, begins, changed_less, come, copies, elsewhere, in_lists, left, tally, tally_append, tally_removed, weight}

-- what is sent, or heard, beside a record is express
abbrev pub IsExpressBeside : Beside → Type 0
IsExpressBeside (beside.SendsExpress now m) = is_express m.delivery ≡ true
IsExpressBeside (beside.HearsExpress peer number now m refusal) = is_express m.delivery ≡ true
IsExpressBeside _ = Unit {0}

module _ (x : MessageId) where
  abbrev pub lefts : List Line → ℕ
  lefts ls = tally (left x) ls

  abbrev pub comes : List Line → ℕ
  comes ls = tally (come x) ls

  -- what an effect did to a state, by its lines
  abbrev pub Remains : State → Effect → Type 0
  Remains s e = Moves x (lefts e.lines) (comes e.lines) s e.state

  one_line : (s : State) (e : Effect) (l : Line) (t : State) → Moves x (left x l) (come x l) e.state t → Remains s e → Remains s (joined e (with_line l t))
  one_line s e l t g h = let then = moves_then x (lefts e.lines) (comes e.lines) (left x l) (come x l) s e.state t h g in let gone = tally_append (left x) e.lines (l ∷ []) in let came = tally_append (come x) e.lines (l ∷ []) in record {
    up = then.up;
    queues = let le = then.queues in omega (arith, le, gone, came);
    both = let le = then.both in omega (arith, le, gone, came);
  }

  remains_or : {X : Type 0} (s : State) (e : Effect) (f : X → Effect) (o : Option X) → Remains s e → ((y : X) → o ≡ Some y → Remains s (f y)) → Remains s (option_map_or f o e)
  remains_or s e f None none some = none
  remains_or s e f (Some y) none some = some y refl

  -- no copies are there but those that were: places stay, and no more wait
  idle : (s t : State) → t.identity ≡ s.identity → t.next_number ≡ s.next_number → t.places ≡ s.places → in_plain x t ≤ in_plain x s → Still x s t
  idle s t own next places fewer = let same = ap (λ p. tally (λ (q : Queue). in_lists x q.lists) p.queues) places in without_number x 0 0 s t own next (omega (arith, same)) (omega (arith, same, fewer))

  -- what waits for one peer changes, and becomes no more
  plain_fewer : (change : PlainLists → PlainLists) (s : State) (k : ℕ) → ((p : PlainLists) → in_list x (change p).recoverable ≤ in_list x p.recoverable) → Still x s (with_plain change s k)
  plain_fewer change s k fewer = idle s (with_plain change s k) refl refl refl
      (let le = tally_changed (λ (p : PlainLists). in_list x p.recoverable) change s.plain k 0 (λ p. let le = fewer p in omega (arith, le)) in omega (arith, le))

  -- a message that joined a stream is in no queue
  joined_moves : (n : ℕ) (a b : State) → Still x a b → Moves x n (0 + n) a b
  joined_moves n a b h = record { up = h.up; queues = let le = h.queues in omega (arith, le); both = let le = h.both in omega (arith, le) }

  -- What leaves a lane. Express messages have no line.

  abbrev pub OfLane : Lane → State → Effect → Type 0
  OfLane lane.Durable s e = Remains s e
  OfLane lane.Express s e = Still x s e.state

  abbrev laned : Lane → ℕ → ℕ
  laned lane.Durable n = n
  laned lane.Express n = 0

  leaves : (kind : Lane) (s : State) (e : Effect) (l : Line) (t : State) → come x l ≡ 0 → Moves x (laned kind (left x l)) 0 e.state t → OfLane kind s e → OfLane kind s (joined e (with_line l t))
  leaves lane.Durable s e l t none g h = one_line s e l t (record { up = g.up; queues = let le = g.queues in omega (arith, le); both = let le = g.both in omega (arith, le) }) h
  leaves lane.Express s e l t none g h = still_then x 0 0 s e.state t h g

  lane_or : {X : Type 0} (kind : Lane) (s : State) (e : Effect) (f : X → Effect) (o : Option X) → OfLane kind s e → ((y : X) → o ≡ Some y → OfLane kind s (f y)) → OfLane kind s (option_map_or f o e)
  lane_or kind s e f None none some = none
  lane_or kind s e f (Some y) none some = some y refl

  -- a message leaves its queue
  without_less : (kind : Lane) (s : State) (n k : ℕ) (m : Message) → message_at kind s (place.Queue n) k ≡ Some m → Moves x (laned kind (weight x m.id)) 0 s (without_at kind s (place.Queue n) k)
  without_less kind s n k m there = let le = by (lists_at s.places (place.Queue n)) refl there in
      without_number x (laned kind (weight x m.id)) 0 s (without_at kind s (place.Queue n) k) refl refl (omega (arith, le)) (omega (arith, le))
    where
      few : (kind : Lane) (l : Lists) → slice_get (messages_in kind l) k ≡ Some m → in_lists x (held.without kind k l) + laned kind (weight x m.id) ≤ in_lists x l
      few lane.Durable l e = let same = tally_removed (λ (y : Message). weight x y.id) l.durable k m e in omega (arith, same)
      few lane.Express l e = omega arith

      by : (o : Option Lists) → lists_at s.places (place.Queue n) ≡ o → option_and_then (λ l. slice_get (messages_in kind l) k) o ≡ Some m
          → copies x (without_at kind s (place.Queue n) k) + laned kind (weight x m.id) ≤ copies x s
      by None e f = absurd (none_some f)
      by (Some l) e f = changed_less x s.places n (held.without kind k) l (laned kind (weight x m.id)) e (few kind l f)

  without_aside : (kind : Lane) (s : State) (at : EntryPlace) (k : ℕ) → is_queue at ≡ false → Still x s (without_at kind s at k)
  without_aside kind s at k e = let le = elsewhere x s.places at (held.without kind k) e in without_number x 0 0 s (without_at kind s at k) refl refl (omega (arith, le)) (omega (arith, le))

  -- and meets a class
  meeting : (less : ℕ) (a b : State) (m : Message) (class : Class) (now : ℕ) → Moves x less 0 a b → Moves x less 0 a (meets b m class now)
  meeting less a b m class now h = then_still x less 0 a b (meets b m class now) h (meets_still x b m class now)

  copied_still : (s : State) (n : ℕ) (m : Message) → Still x s (copied s n m)
  copied_still s n m = still_or x s (λ (q : Queue). cond q.plan.journal (put_at s (place.JournalOf n) m) s) (numbered s.places.queues n)
      (λ q. still_if x s q.plan.journal (put_at s (place.JournalOf n) m) s (put_aside x s (place.JournalOf n) m refl) (stays x s))

  -- a line that counts for a message that left its queue, in its lane
  aside : (kind : Lane) (a b : State) → Still x a b → Moves x (laned kind 0) 0 a b
  aside lane.Durable a b h = h
  aside lane.Express a b h = h

  pub taken_at_remains : (kind : Lane) (s : State) (at : EntryPlace) (k now : ℕ) (e : Effect) → OfLane kind s e → OfLane kind s (taken_at kind at k now e)
  taken_at_remains kind s (place.Queue n) k now e h = lane_or kind s e (λ m. joined e (message_taken kind (place.Queue n) k now e.state m)) (message_at kind e.state (place.Queue n) k) h
      (λ m there. let out = without_at kind e.state (place.Queue n) k in leaves kind s e (line.Took m.id) (after_take out (place.Queue n) m now) refl
      (meeting (laned kind (weight x m.id)) e.state (copied out n m) m RECEIVED now (then_still x (laned kind (weight x m.id)) 0 e.state out (copied out n m) (without_less kind e.state n k m there) (copied_still out n m))) h)
  taken_at_remains kind s at k now e h = lane_or kind s e (λ m. joined e (message_taken kind at k now e.state m)) (message_at kind e.state at k) h
      (λ m there. leaves kind s e (line.Emptied m.id) (without_at kind e.state at k) refl (aside kind e.state (without_at kind e.state at k) (without_aside kind e.state at k refl)) h)

  taken_remains : (s : State) (at : EntryPlace) (id : MessageId) (now : ℕ) (e : Effect) → Remains s e → Remains s (taken at id now e)
  taken_remains s at id now e h = remains_or s e (λ k. taken_at lane.Durable at k now e) (index_named e.state.places at id now) h (λ k there. taken_at_remains lane.Durable s at k now e h)

  repeats : (P : Effect → Type 0) (step : Effect → Effect) → ((e : Effect) → P e → P (step e)) → (n : ℕ) (e : Effect) → P e → P (repeated n step e)
  repeats P step keeps zero e h = h
  repeats P step keeps (suc n) e h = keeps (repeated n step e) (repeats P step keeps n e h)

  each : (P : Effect → Type 0) (step : ℕ → Effect → Effect) → ((k : ℕ) (e : Effect) → P e → P (step k e)) → (n : ℕ) (e : Effect) → P e → P (for_each_below n step e)
  each P step keeps zero e h = h
  each P step keeps (suc n) e h = keeps n (for_each_below n step e) (each P step keeps n e h)

  oldest_remains : (kind : Lane) (s : State) (at : EntryPlace) (now : ℕ) (e : Effect) → OfLane kind s e → OfLane kind s (oldest_purged kind at now e)
  oldest_remains kind s (place.Queue n) now e h = lane_or kind s e (λ m. joined e (message_purged kind (place.Queue n) now e.state m)) (message_at kind e.state (place.Queue n) 0) h
      (λ m there. let out = without_at kind e.state (place.Queue n) 0 in leaves kind s e (line.Purged m.id) (meets out m QUEUE_PURGED now) refl
      (meeting (laned kind (weight x m.id)) e.state out m QUEUE_PURGED now (without_less kind e.state n 0 m there)) h)
  oldest_remains kind s at now e h = lane_or kind s e (λ m. joined e (message_purged kind at now e.state m)) (message_at kind e.state at 0) h
      (λ m there. leaves kind s e (line.Emptied m.id) (without_at kind e.state at 0) refl (aside kind e.state (without_at kind e.state at 0) (without_aside kind e.state at 0 refl)) h)

  pub purged_remains : (kind : Lane) (s : State) (at : EntryPlace) (now : ℕ) (e : Effect) → OfLane kind s e → OfLane kind s (purged kind at now e)
  purged_remains kind s at now e h = repeats (OfLane kind s) (oldest_purged kind at now) (oldest_remains kind s at now) (count_at kind e.state at) e h

  -- Ticks.

  lapsed_remains : (kind : Lane) (s : State) (now k : ℕ) (e : Effect) → OfLane kind s e → OfLane kind s (next_lapsed kind now k e)
  lapsed_remains kind s now k e h = lane_or kind s e (λ (p : PlainLists). option_map_or (λ index.
      option_map_or (λ (o : Outgoing). joined e (message_lapsed kind now k index e.state o.message)) (slice_get (outgoing_in kind p) index) e)
      (lapsing kind now p) e) (slice_get e.state.plain k) h
      (λ p a. lane_or kind s e (λ index. option_map_or (λ (o : Outgoing). joined e (message_lapsed kind now k index e.state o.message)) (slice_get (outgoing_in kind p) index) e) (lapsing kind now p) h
      (λ index b. lane_or kind s e (λ (o : Outgoing). joined e (message_lapsed kind now k index e.state o.message)) (slice_get (outgoing_in kind p) index) h
      (λ o c. let out = with_plain (without kind index) e.state k in leaves kind s e (line.Lapsed o.message.id) (meets out o.message REACH_TIMEOUT now) refl
      (aside kind e.state (meets out o.message REACH_TIMEOUT now) (meeting 0 e.state out o.message REACH_TIMEOUT now (plain_fewer (without kind index) e.state k (λ p. without_waits x kind index p)))) h)))

  swept_remains : (kind : Lane) (s : State) (now k : ℕ) (e : Effect) → OfLane kind s e → OfLane kind s (next_swept kind now k e)
  swept_remains kind s now k e h = lane_or kind s e (λ (q : Queue). option_map_or (λ index.
      option_map_or (λ m. joined e (message_swept kind now (k + 1) index e.state m)) (slice_get (messages_in kind q.lists) index) e)
      (sweeping kind now q) e) (slice_get e.state.places.queues k) h
      (λ q a. lane_or kind s e (λ index. option_map_or (λ m. joined e (message_swept kind now (k + 1) index e.state m)) (slice_get (messages_in kind q.lists) index) e) (sweeping kind now q) h
      (λ index b. lane_or kind s e (λ m. joined e (message_swept kind now (k + 1) index e.state m)) (slice_get (messages_in kind q.lists) index) h
      (λ m c. let out = without_at kind e.state (place.Queue (k + 1)) index in leaves kind s e (line.Swept m.id) (meets out m RECEIVE_TIMEOUT now) refl
      (meeting (laned kind (weight x m.id)) e.state out m RECEIVE_TIMEOUT now (without_less kind e.state (k + 1) index m (there q index m a c))) h)))
    where
      there : (q : Queue) (index : ℕ) (m : Message) → slice_get e.state.places.queues k ≡ Some q → slice_get (messages_in kind q.lists) index ≡ Some m → message_at kind e.state (place.Queue (k + 1)) index ≡ Some m
      there q index m a c = ap (λ o. option_and_then (λ (l : Lists). slice_get (messages_in kind l) index) (option_map (λ (q : Queue). q.lists) o)) (ap (numbered e.state.places.queues) next ∙ numbered_suc e.state.places.queues k ∙ a) ∙ c
        where
          next : k + 1 ≡ suc k
          next = omega arith

  pub ticked_remains : (kind : Lane) (s : State) (now : ℕ) (e : Effect) → OfLane kind s e → OfLane kind s (lane_ticked kind now e)
  ticked_remains kind s now e h = each (OfLane kind s) (queue_swept kind now)
      (λ k d g. repeats (OfLane kind s) (next_swept kind now k) (swept_remains kind s now k) (option_map_or (sweeping_in kind now) (slice_get d.state.places.queues k) 0) d g)
      (length e.state.places.queues) (for_each_below (length e.state.plain) (peer_lapsed kind now) e)
      (each (OfLane kind s) (peer_lapsed kind now)
      (λ k d g. repeats (OfLane kind s) (next_lapsed kind now k) (lapsed_remains kind s now k) (option_map_or (lapsing_in kind now) (slice_get d.state.plain k) 0) d g) (length e.state.plain) e h)

  expired_remains : (s : State) (now k : ℕ) (e : Effect) → Remains s e → Remains s (next_expired now k e)
  expired_remains s now k e h = remains_or s e (λ (row : Row). option_map_or (λ kept. joined e (message_expired now k e.state row kept)) (expiring now row) e) (slice_get e.state.outs k) h
      (λ row a. remains_or s e (λ kept. joined e (message_expired now k e.state row kept)) (expiring now row) h
      (λ kept b. one_line s e (line.Expired (stream_of e.state row) kept.number kept.message.id now) (meets (with_expired now e.state k) kept.message REACH_TIMEOUT now)
      (meeting 0 e.state (with_expired now e.state k) kept.message REACH_TIMEOUT now (idle e.state (with_expired now e.state k) refl refl refl (omega arith))) h))

  expiring_remains : (s : State) (now : ℕ) (e : Effect) → Remains s e → Remains s (rows_expired now e)
  expiring_remains s now e h = each (Remains s) (row_expired now)
      (λ k d g. repeats (Remains s) (next_expired now k) (expired_remains s now k) (option_map_or (expiring_in now) (slice_get d.state.outs k) 0) d g) (length e.state.outs) e h

  -- Sends.

  journalled_still : (s : State) (m : Message) → Still x s (journalled s m)
  journalled_still s m = still_if x s (keeps_copy m) (put_at s place.Journal m) s (put_aside x s place.Journal m refl) (stays x s)

  join_still : (s : State) (peer now : ℕ) (m : Message) → Still x s (join s peer now m)
  join_still s peer now m = at (sequence_in_use s peer m.destination)
    where
      at : (o : Option Row) → Still x s (option_map_or (λ row. with_row (with_kept m) s row.sequence.ordinal) o (with_sequence s (with_kept m (new_sequence s peer m.destination now))))
      at None = idle s _ refl refl refl (omega arith)
      at (Some row) = idle s _ refl refl refl (omega arith)

  here_moves : (s : State) (t : Target) (m : Message) (now n : ℕ) → (is_express m.delivery ≡ false → weight x m.id ≤ n) → Moves x 0 n s (meets (placed s t m) m REACHED_QUEUE now)
  here_moves s t m now n few = then_still x 0 n s (placed s t m) (meets (placed s t m) m REACHED_QUEUE now) (placed_moves x s t m n few) (meets_still x (placed s t m) m REACHED_QUEUE now)

  sends_remain : (s : State) (now : ℕ) (e : Effect) (ms : List Message) → Remains s e → Remains s (fold (send_made now) e ms)
  sends_remain s now e [] h = h
  sends_remain s now e (m ∷ ms) h = sends_remain s now (send_made now e m) ms (at (resolved e.state m.destination))
    where
      t : State
      t = journalled e.state m

      at : (target : Target) → Remains s (joined e (committed_to now t target m))
      at (AtPeer k) = one_line s e (committed_line t (sequence_for t k m.destination now) m) (join t k now m)
          (joined_moves (weight x m.id) e.state (join t k now m) (still_then x 0 0 e.state t (join t k now m) (journalled_still e.state m) (join_still t k now m))) h
      at (Here queue) = one_line s e (line.Local m.id) (delivered t (Here queue) m now) (more_moves x 0 (weight x m.id) (come x (line.Local m.id)) e.state (delivered t (Here queue) m now) (omega arith)
          (still_then x 0 (weight x m.id) e.state t (delivered t (Here queue) m now) (journalled_still e.state m) (here_moves t (Here queue) m now (weight x m.id) (λ e. omega arith)))) h
      at Nowhere = one_line s e (line.Local m.id) (delivered t Nowhere m now) (more_moves x 0 (weight x m.id) (come x (line.Local m.id)) e.state (delivered t Nowhere m now) (omega arith)
          (still_then x 0 (weight x m.id) e.state t (delivered t Nowhere m now) (journalled_still e.state m) (here_moves t Nowhere m now (weight x m.id) (λ e. omega arith)))) h

  ops_remain : (s : State) (now : ℕ) (e : Effect) (ops : List RecordOp) → Remains s e → Remains s (fold (op_taken now) e ops)
  ops_remain s now e [] h = h
  ops_remain s now e (entry.Send p ∷ ops) h = ops_remain s now e ops h
  ops_remain s now e (entry.Take queue id ∷ ops) h = ops_remain s now (taken (place.Queue queue) id now e) ops (taken_remains s (place.Queue queue) id now e h)

  -- Arrivals.

  releases_remain : (s : State) (e : Effect) (numbers : List ℕ) → Remains s e → Remains s (fold message_released e numbers)
  releases_remain s e [] h = h
  releases_remain s e (n ∷ ns) h = releases_remain s (message_released e n) ns (one_line s e (line.Released (own_id e.state n)) (without_released e.state n) (idle e.state (without_released e.state n) refl refl refl
      (tally_first_changed (λ (p : PlainLists). in_list x p.recoverable) (without_recoverable e.state n) (has_recoverable e.state n) e.state.plain (λ p. released_waits x e.state n p))) h)

  arrived_moves : (s : State) (m : Message) (now : ℕ) (refusal : Option Class) (n : ℕ) → (refusal ≡ None → is_express m.delivery ≡ false → weight x m.id ≤ n) → Moves x 0 n s (arrived s m now refusal)
  arrived_moves s m now None n few = here_moves s (resolved s m.destination) m now n (few refl)
  arrived_moves s m now (Some class) n few = more_moves x 0 0 n s (meets s m class now) (omega arith) (meets_still x s m class now)

  -- a line that says so
  arriving : (s : State) (e : Effect) (t : State) (m : Message) (now : ℕ) (refusal : Option Class) (l : Line) → Still x e.state t → left x l ≡ 0 → (refusal ≡ None → weight x m.id ≤ come x l)
      → Remains s e → Remains s (joined e (with_line l (arrived t m now refusal)))
  arriving s e t m now refusal l still none says h = one_line s e l (arrived t m now refusal) (subst (λ n. Moves x n (come x l) e.state (arrived t m now refusal)) (sym none)
      (still_then x 0 (come x l) e.state t (arrived t m now refusal) still (arrived_moves t m now refusal (come x l) (λ r e. says r)))) h

  decided_none : (m : Message) (tx : TxHead) (o : Option Class) → left x (decided_line m tx o) ≡ 0
  decided_none m tx None = refl
  decided_none m tx (Some class) = refl

  stored_none : (m : Message) (o : Option Class) → left x (stored_line m o) ≡ 0
  stored_none m None = refl
  stored_none m (Some class) = refl

  final_still : (s : State) (m : Message) → Still x s (option_map_or (λ peer. finished_by s peer m) (peer_known s m.id.qm) s)
  final_still s m = still_or x s (λ peer. finished_by s peer m) (peer_known s m.id.qm) (λ peer. still_or x s (finished_at s m) (index_finished s peer m)
      (λ index. still_or x s (λ k. dead_for m.class (with_finished m.correlation s index k) k.message) (option_and_then (kept_named m.correlation) (slice_get s.outs index)) (λ k. one index k (is_negative m.class.0))))
    where
      one : (index : ℕ) (k : Kept) (b : Bool) → Still x s (cond b (put_at (with_finished m.correlation s index k) place.DeadXact k.message) (with_finished m.correlation s index k))
      one index k true = let t = with_finished m.correlation s index k in still_then x 0 0 s t (put_at t place.DeadXact k.message) (idle s t refl refl refl (omega arith)) (put_aside x t place.DeadXact k.message refl)
      one index k false = idle s (with_finished m.correlation s index k) refl refl refl (omega arith)

  part_remains : (s : State) (now : ℕ) (e : Effect) (part : Part) → Remains s e → Remains s (part_made now e part)
  part_remains s now e entry.Nothing h = h
  part_remains s now e (entry.Decided p) h = remains_or s e (λ tx. joined e (message_decided now e.state p tx)) p.tx h
      (λ tx there. let refusal = refusal_of e.state p in arriving s e (with_decided e.state p.message tx) p.message now refusal (decided_line p.message tx refusal)
      (idle e.state (with_decided e.state p.message tx) refl refl refl (omega arith)) (decided_none p.message tx refusal) (λ r. let same = ap (λ o. come x (decided_line p.message tx o)) r in omega (arith, same)) h)
  part_remains s now e (entry.Stored p) h = let refusal = storing_refusal e.state p in arriving s e e.state p.message now refusal (stored_line p.message refusal)
      (stays x e.state) (stored_none p.message refusal) (λ r. let same = ap (λ o. come x (stored_line p.message o)) r in omega (arith, same)) h
  part_remains s now e (entry.OrderAcknowledged ordinal number) h = then_still x (lefts e.lines) (comes e.lines) s e.state (part_made now e (entry.OrderAcknowledged ordinal number)).state h (idle e.state _ refl refl refl (omega arith))
  part_remains s now e (entry.Final p) h = one_line s e (line.Stored p.message.id) (option_map_or (λ peer. finished_by e.state peer p.message) (peer_known e.state p.message.id.qm) e.state)
      (more_moves x 0 0 (come x (line.Stored p.message.id)) e.state (option_map_or (λ peer. finished_by e.state peer p.message) (peer_known e.state p.message.id.qm) e.state) (omega arith) (final_still e.state p.message)) h

  -- Records.

  marks_still : (s : State) (marks : List Mark) → Still x s (fold mark_raised s marks)
  marks_still s [] = stays x s
  marks_still s (mark ∷ marks) = still_then x 0 0 s (mark_raised s mark) (fold mark_raised (mark_raised s mark) marks) (idle s (mark_raised s mark) refl refl refl (omega arith)) (marks_still (mark_raised s mark) marks)

  plain_moves : (s : State) (t : Target) (m : Message) (now : ℕ) → Moves x 0 (weight x m.id) s (delivered s t m now)
  plain_moves s (AtPeer k) m now = placed_moves x s (AtPeer k) m (weight x m.id) (λ e. omega arith)
  plain_moves s (Here queue) m now = here_moves s (Here queue) m now (weight x m.id) (λ e. omega arith)
  plain_moves s Nowhere m now = more_moves x 0 0 (weight x m.id) s (meets s m REACHED_QUEUE now) (omega arith) (meets_still x s m REACHED_QUEUE now)

  -- what arrives by lines, and what they say was sent
  abbrev pub arrivals : List Line → ℕ
  arrivals ls = tally (arrives x) ls

  abbrev pub beginnings : List Line → ℕ
  beginnings ls = tally (begins x) ls

  pub comes_are : (ls : List Line) → comes ls ≡ arrivals ls + beginnings ls
  comes_are [] = omega arith
  comes_are (l ∷ ls) = let rest = comes_are ls in omega (arith, rest)

  -- how often a record sends a message: a plain one may wait for its peer, and has no line then
  abbrev pub sends : State → Record → ℕ
  sends s (entry.Plain now p) = weight x p.message.id
  sends s r = beginnings (lines_of s r)

  -- what a record does
  abbrev RecordMoves : State → Record → Type 0
  RecordMoves s r = Moves x (lefts (lines_of s r)) (arrivals (lines_of s r) + sends s r) (numbered_for s r) (apply s r)

  by_lines : (s t : State) (e : Effect) → Remains t e → Moves x (lefts e.lines) (arrivals e.lines + beginnings e.lines) t e.state
  by_lines s t e h = subst (λ n. Moves x (lefts e.lines) n t e.state) (comes_are e.lines) h

  pub record_moves : (s : State) (r : Record) → RecordMoves s r
  record_moves s (entry.Identity identity) = by_lines s s (effect_of s (entry.Identity identity)) (stays x s)
  record_moves s (entry.Peer peer) = by_lines s s (effect_of s (entry.Peer peer))
      (idle s _ refl refl refl (let e = tally_append (λ (p : PlainLists). in_list x p.recoverable) s.plain (no_plain ∷ []) in omega (arith, e)))
  record_moves s (entry.CreateQueue number plan) = let more = tally_append (λ (q : Queue). in_lists x q.lists) s.places.queues (new_queue plan ∷ []) in
      by_lines s s (effect_of s (entry.CreateQueue number plan)) (without_number x 0 0 s (apply s (entry.CreateQueue number plan)) refl refl (omega (arith, more)) (omega (arith, more)))
  record_moves s (entry.Commit now ops) = let t = numbered_for s (entry.Commit now ops) in by_lines s t (effect_of s (entry.Commit now ops))
      (sends_remain t now (takes_made s now ops) (sends_of ops) (ops_remain t now (sends_numbered s ops) ops (stays x t)))
  record_moves s (entry.Plain now p) = let t = numbered_for s (entry.Plain now p) in at (is_here (resolved s p.message.destination))
      (still_then x 0 (weight x p.message.id) t (journalled t p.message) (plain_sent t p.message now) (journalled_still t p.message) (plain_moves (journalled t p.message) (resolved s p.message.destination) p.message now))
    where
      at : (b : Bool) → Moves x 0 (weight x p.message.id) (numbered_for s (entry.Plain now p)) (apply s (entry.Plain now p))
          → Moves x (lefts (cond b (line.Local p.message.id ∷ []) [])) (arrivals (cond b (line.Local p.message.id ∷ []) []) + weight x p.message.id) (numbered_for s (entry.Plain now p)) (apply s (entry.Plain now p))
      at true h = record { up = h.up; queues = let le = h.queues in omega (arith, le); both = let le = h.both in omega (arith, le) }
      at false h = record { up = h.up; queues = let le = h.queues in omega (arith, le); both = let le = h.both in omega (arith, le) }
  record_moves s (entry.Offered marks) = by_lines s s (effect_of s (entry.Offered marks)) (marks_still s marks)
  record_moves s (entry.Arrived now numbers part) = by_lines s s (effect_of s (entry.Arrived now numbers part)) (part_remains s now (releases_made s numbers) part (releases_remain s (begun s) numbers (stays x s)))
  record_moves s (entry.Taken now at id) = by_lines s s (effect_of s (entry.Taken now at id)) (taken_remains s at id now (begun s) (stays x s))
  record_moves s (entry.Purged now at) = by_lines s s (effect_of s (entry.Purged now at)) (purged_remains lane.Durable s at now (begun s) (stays x s))
  record_moves s (entry.Ticked now) = by_lines s s (effect_of s (entry.Ticked now)) (ticked_remains lane.Durable s now (rows_expired now (begun s)) (expiring_remains s now (begun s) (stays x s)))
  record_moves s (entry.Set setting) = by_lines s s (effect_of s (entry.Set setting)) (idle s _ refl refl refl (omega arith))

  -- Beside a record nothing durable comes.

  express_delivered : (s : State) (t : Target) (m : Message) (now : ℕ) → is_express m.delivery ≡ true → Still x s (delivered s t m now)
  express_delivered s (AtPeer k) m now e = placed_moves x s (AtPeer k) m 0 (λ f. absurd (clash (sym e ∙ f)))
  express_delivered s (Here queue) m now e = here_moves s (Here queue) m now 0 (λ f. absurd (clash (sym e ∙ f)))
  express_delivered s Nowhere m now e = meets_still x s m REACHED_QUEUE now

  noted_still : (peer : ℕ) (s : State) (origin : Origin) (head : SessionHead) → Still x s (noted_as peer head s origin)
  noted_still peer s (beside.Owed row) head = idle s _ refl refl refl (omega arith)
  noted_still peer s beside.OfRecoverable head = plain_fewer (with_marked lane.Durable head.recoverable) s peer (λ p. marked_waits x lane.Durable head.recoverable p)
  noted_still peer s beside.OfExpress head = plain_fewer (with_marked lane.Express head.user) s peer (λ p. marked_waits x lane.Express head.user p)
  noted_still peer s (beside.OfRow row number) head = stays x s

  all_noted_still : (peer : ℕ) (s : State) (sent : List (Origin × SessionHead)) → Still x s (fold (noted peer) s sent)
  all_noted_still peer s [] = stays x s
  all_noted_still peer s (g ∷ gs) = still_then x 0 0 s (noted peer s g) (fold (noted peer) (noted peer s g) gs) (noted_still peer s g.0 g.1) (all_noted_still peer (noted peer s g) gs)

  pub beside_still : (b : Beside) → IsExpressBeside b → (s : State) → Still x s (beside.beside_done b s)
  beside_still beside.Nothing h s = stays x s
  beside_still (beside.SendsExpress now m) h s = let t = number_taken s delivery.Express in still_then x 0 0 s t (express_sent s m now) (idle s t refl refl refl (omega arith))
      (still_then x 0 0 t (journalled t m) (express_sent s m now) (journalled_still t m) (express_delivered (journalled t m) (resolved t m.destination) m now h))
  beside_still (beside.TakesExpress now at index) h s = taken_at_remains lane.Express s at index now (begun s) (stays x s)
  beside_still (beside.PurgesExpress now at) h s = purged_remains lane.Express s at now (begun s) (stays x s)
  beside_still (beside.TicksExpress now) h s = ticked_remains lane.Express s now (begun s) (stays x s)
  beside_still beside.Unmarks h s = idle s _ refl refl refl (tally_mapped (λ (p : PlainLists). in_list x p.recoverable) all_unmarked s.plain (λ p. unmarked_waits x p.recoverable))
  beside_still (beside.DropsExpress peer number) h s = plain_fewer (without_acked number) s peer (λ p. omega arith)
  beside_still (beside.HearsExpress peer number now m refusal) h s = let t = with_plain (without_acked number) s peer in still_then x 0 0 s t (arrived t m now refusal) (plain_fewer (without_acked number) s peer (λ p. omega arith))
      (arrived_moves t m now refusal 0 (λ r f. absurd (clash (sym h ∙ f))))
  beside_still (beside.NotesSent peer sent) h s = all_noted_still peer s sent
