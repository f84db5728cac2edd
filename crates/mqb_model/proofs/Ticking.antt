-- What is due leaves, whatever express messages and marks stand beside it.
use Rattle.std.proofs.Common.{refl, ap, ◌∙◌}
use Rattle.std.proofs.lemmas.List.{length-map}
use Rattle.std.proofs.lemmas.List.Folds.{fold-map}
use Rattle.std.specs.Option.{option_map_or}
use Rattle.std.specs.Prelude.{◌+◌, ◌≡◌, [], All, Bool, IfSome, List, None, Option, Some, cond, count_by, length, map, option_and_then, option_map, position, remove, slice_get, ℕ}
use Rattle.mqb_base.specs.declared.class.TheConstants.Class.{REACH_TIMEOUT, RECEIVE_TIMEOUT}
use Rattle.mqb_base.specs.declared.ledger.Line.TheVariants as line
use Rattle.mqb_base.specs.declared.message.Lane.TheVariants as lane
use Rattle.mqb_base.specs.declared.message.Message.{Message}
use Rattle.mqb_base.specs.declared.queues.EntryPlace.TheVariants as place
use Rattle.mqb_orders.specs.Rows.{Row}
use Rattle.mqb_orders.specs.declared.kept.Kept.{Kept}
use Rattle.mqb_plain.specs.Lists.{unsent}
use Rattle.mqb_plain.specs.Plain.{PlainLists, without}
use Rattle.mqb_plain.specs.declared.outgoing.Outgoing.{Outgoing}
use Rattle.mqb_queue.specs.Places.{Queue}
use Rattle.mqb_model.specs.Loops.{for_each_below, repeated}
use Rattle.mqb_model.specs.Lists.{first_where, without_first}
use Rattle.mqb_model.specs.laws.Durable.{LeavingIsDurable, durable_effect}
use Rattle.mqb_model.specs.rules.Effects.{Effect, begun, joined, with_line}
use Rattle.mqb_model.specs.rules.Notices.{meets}
use Rattle.mqb_model.specs.rules.Timeouts.{expires, expiring, expiring_in, lane_ticked, lapses, lapsing, lapsing_in, message_expired, message_lapsed, message_swept, next_expired, next_lapsed, next_swept, peer_lapsed, queue_swept, row_expired, rows_expired, sweeping, sweeping_in, with_expired, without_expired}
use Rattle.mqb_model.specs.state.Durable.{durable, durable_plain, durable_queue}
use Rattle.mqb_model.specs.state.Places.{with_plain, without_at}
use Rattle.mqb_model.specs.state.Rows.{stream_of}
use Rattle.mqb_model.specs.state.State.{State}
use Rattle.mqb_model.proofs.Holding.{Holds, IsDurable, PlainHolds, QueueHolds, RowHolds, changed_holds, get_holds, item_holds, meets_holds, plain_holds, removed_holds, valid_holds, without_holds}
use Rattle.mqb_model.proofs.Leaving.{each_same, purged_same, repeated_same, taken_same, without_same}
use Rattle.mqb_model.proofs.Lenses.{plain_changed_same}
use Rattle.mqb_model.proofs.Mapped.{get_mapped, position_mapped, remove_mapped}
use Rattle.mqb_model.proofs.Meeting.{meets_same}

-- Rows: a store stands for all of them.

pub first_holds : {X : Type 0} (P : X → Type 0) (p : X → Bool) (xs : List X) → All P xs → IfSome (first_where p xs) P
first_holds P p xs h = at (position p xs)
  where
    at : (o : Option ℕ) → IfSome (option_and_then (slice_get xs) o) P
    at None = tt
    at (Some k) = item_holds P xs k h

pub without_first_holds : {X : Type 0} (P : X → Type 0) (p : X → Bool) (xs : List X) → All P xs → All P (without_first p xs)
without_first_holds P p xs h = at (position p xs)
  where
    at : (o : Option ℕ) → All P (option_map_or (remove xs) o xs)
    at None = h
    at (Some k) = removed_holds P xs k h

expired_holds : (now : ℕ) (s : State) (k : ℕ) → Holds s → Holds (with_expired now s k)
expired_holds now s k h = record {
  queues = h.queues;
  dead = h.dead;
  dead_xact = h.dead_xact;
  journal = h.journal;
  waiting = h.waiting;
  rows = changed_holds RowHolds (without_expired now) s.outs k (λ row r. without_first_holds (λ j. IsDurable j.message) (expires now row) row.kept r) h.rows;
}

next_expired_same : (now k : ℕ) (e : Effect) → Holds e.state → next_expired now k (durable_effect e) ≡ durable_effect (next_expired now k e)
next_expired_same now k e h = at (slice_get e.state.outs k) (get_holds RowHolds e.state.outs k h.rows)
  where
    of : (row : Row) (o : Option Kept) → IfSome o (λ j. IsDurable j.message)
        → option_map_or (λ kept. joined (durable_effect e) (message_expired now k (durable e.state) row kept)) o (durable_effect e)
        ≡ durable_effect (option_map_or (λ kept. joined e (message_expired now k e.state row kept)) o e)
    of row None d = refl
    of row (Some kept) d = ap (λ u. joined (durable_effect e) (with_line (line.Expired (stream_of e.state row) kept.number kept.message.id now) u))
        (meets_same (with_expired now e.state k) kept.message REACH_TIMEOUT now d)

    at : (o : Option Row) → IfSome o RowHolds
        → option_map_or (λ row. option_map_or (λ kept. joined (durable_effect e) (message_expired now k (durable e.state) row kept)) (expiring now row) (durable_effect e)) o (durable_effect e)
        ≡ durable_effect (option_map_or (λ row. option_map_or (λ kept. joined e (message_expired now k e.state row kept)) (expiring now row) e) o e)
    at None d = refl
    at (Some row) d = of row (expiring now row) (first_holds (λ j. IsDurable j.message) (expires now row) row.kept d)

next_expired_holds : (now k : ℕ) (e : Effect) → Holds e.state → Holds (next_expired now k e).state
next_expired_holds now k e h = at (slice_get e.state.outs k) (get_holds RowHolds e.state.outs k h.rows)
  where
    of : (row : Row) (o : Option Kept) → IfSome o (λ j. IsDurable j.message) → Holds (option_map_or (λ kept. joined e (message_expired now k e.state row kept)) o e).state
    of row None d = h
    of row (Some kept) d = meets_holds (with_expired now e.state k) kept.message REACH_TIMEOUT now d (expired_holds now e.state k h)

    at : (o : Option Row) → IfSome o RowHolds → Holds (option_map_or (λ row. option_map_or (λ kept. joined e (message_expired now k e.state row kept)) (expiring now row) e) o e).state
    at None d = h
    at (Some row) d = of row (expiring now row) (first_holds (λ j. IsDurable j.message) (expires now row) row.kept d)

row_expired_same : (now k : ℕ) (e : Effect) → Holds e.state → row_expired now k (durable_effect e) ≡ durable_effect (row_expired now k e)
row_expired_same now k e h = (repeated_same (next_expired now k) (next_expired_same now k) (next_expired_holds now k) (option_map_or (expiring_in now) (slice_get e.state.outs k) 0) e h).0

row_expired_holds : (now k : ℕ) (e : Effect) → Holds e.state → Holds (row_expired now k e).state
row_expired_holds now k e h = (repeated_same (next_expired now k) (next_expired_same now k) (next_expired_holds now k) (option_map_or (expiring_in now) (slice_get e.state.outs k) 0) e h).1

rows_expired_both : (now : ℕ) (e : Effect) → Holds e.state → (rows_expired now (durable_effect e) ≡ durable_effect (rows_expired now e)) × Holds (rows_expired now e).state
rows_expired_both now e h = each_same (row_expired now) (row_expired_same now) (row_expired_holds now) (length e.state.outs) e h

-- Plain messages.

lapsing_same : (now : ℕ) (p : PlainLists) → lapsing lane.Durable now (durable_plain p) ≡ lapsing lane.Durable now p
lapsing_same now p = position_mapped (lapses now) (λ (o : Outgoing). unsent o.message) p.recoverable

without_plain_same : (s : State) (k index : ℕ) → with_plain (without lane.Durable index) (durable s) k ≡ durable (with_plain (without lane.Durable index) s k)
without_plain_same s k index = plain_changed_same s k (without lane.Durable index) (λ p. ap with_items (remove_mapped (λ (o : Outgoing). unsent o.message) p.recoverable index))
  where
    with_items : List Outgoing → PlainLists
    with_items items = record { recoverable = items; express = [] }

next_lapsed_both : (now k : ℕ) (e : Effect) → Holds e.state
    → (next_lapsed lane.Durable now k (durable_effect e) ≡ durable_effect (next_lapsed lane.Durable now k e)) × Holds (next_lapsed lane.Durable now k e).state
next_lapsed_both now k e h = (
  ap (λ o. for (durable_effect e) (λ p index m. message_lapsed lane.Durable now k index (durable e.state) m) o) (get_mapped durable_plain e.state.plain k)
      ∙ at (slice_get e.state.plain k) (get_holds PlainHolds e.state.plain k h.waiting),
  keeps (slice_get e.state.plain k) (get_holds PlainHolds e.state.plain k h.waiting),
)
  where
    for : Effect → (PlainLists → ℕ → Message → Effect) → Option PlainLists → Effect
    for x make o = option_map_or (λ p. option_map_or (λ index. option_map_or (λ j. joined x (make p index j.message)) (slice_get p.recoverable index) x) (lapsing lane.Durable now p) x) o x

    goes : (p : PlainLists) (index : ℕ) (o : Option Outgoing) → IfSome o (λ j. IsDurable j.message)
        → option_map_or (λ j. joined (durable_effect e) (message_lapsed lane.Durable now k index (durable e.state) j.message)) (option_map (λ j. unsent j.message) o) (durable_effect e)
        ≡ durable_effect (option_map_or (λ j. joined e (message_lapsed lane.Durable now k index e.state j.message)) o e)
    goes p index None d = refl
    goes p index (Some j) d = ap (λ u. joined (durable_effect e) (with_line (line.Lapsed j.message.id) u))
        (ap (λ u. meets u j.message REACH_TIMEOUT now) (without_plain_same e.state k index) ∙ meets_same (with_plain (without lane.Durable index) e.state k) j.message REACH_TIMEOUT now d)

    of : (p : PlainLists) → PlainHolds p → (o : Option ℕ)
        → option_map_or (λ index. option_map_or (λ j. joined (durable_effect e) (message_lapsed lane.Durable now k index (durable e.state) j.message)) (slice_get (durable_plain p).recoverable index) (durable_effect e)) o (durable_effect e)
        ≡ durable_effect (option_map_or (λ index. option_map_or (λ j. joined e (message_lapsed lane.Durable now k index e.state j.message)) (slice_get p.recoverable index) e) o e)
    of p d None = refl
    of p d (Some index) = ap (λ o. option_map_or (λ j. joined (durable_effect e) (message_lapsed lane.Durable now k index (durable e.state) j.message)) o (durable_effect e))
        (get_mapped (λ (j : Outgoing). unsent j.message) p.recoverable index) ∙ goes p index (slice_get p.recoverable index) (item_holds (λ j. IsDurable j.message) p.recoverable index d)

    at : (o : Option PlainLists) → IfSome o PlainHolds
        → for (durable_effect e) (λ p index m. message_lapsed lane.Durable now k index (durable e.state) m) (option_map durable_plain o)
        ≡ durable_effect (for e (λ p index m. message_lapsed lane.Durable now k index e.state m) o)
    at None d = refl
    at (Some p) d = ap (λ o. option_map_or (λ index. option_map_or (λ j. joined (durable_effect e) (message_lapsed lane.Durable now k index (durable e.state) j.message)) (slice_get (durable_plain p).recoverable index) (durable_effect e)) o (durable_effect e))
        (lapsing_same now p) ∙ of p d (lapsing lane.Durable now p)

    left : (p : PlainLists) → PlainHolds p → (index : ℕ) (o : Option Outgoing) → IfSome o (λ j. IsDurable j.message)
        → Holds (option_map_or (λ j. joined e (message_lapsed lane.Durable now k index e.state j.message)) o e).state
    left p d index None g = h
    left p d index (Some j) g = meets_holds (with_plain (without lane.Durable index) e.state k) j.message REACH_TIMEOUT now g
        (plain_holds e.state k (without lane.Durable index) (λ q r. removed_holds (λ o. IsDurable o.message) q.recoverable index r) h)

    keeps_of : (p : PlainLists) → PlainHolds p → (o : Option ℕ)
        → Holds (option_map_or (λ index. option_map_or (λ j. joined e (message_lapsed lane.Durable now k index e.state j.message)) (slice_get p.recoverable index) e) o e).state
    keeps_of p d None = h
    keeps_of p d (Some index) = left p d index (slice_get p.recoverable index) (item_holds (λ j. IsDurable j.message) p.recoverable index d)

    keeps : (o : Option PlainLists) → IfSome o PlainHolds → Holds (for e (λ p index m. message_lapsed lane.Durable now k index e.state m) o).state
    keeps None d = h
    keeps (Some p) d = keeps_of p d (lapsing lane.Durable now p)

count_mapped : {X Y : Type 0} (p : Y → Bool) (f : X → Y) (xs : List X) → count_by p (map f xs) ≡ count_by (λ x. p (f x)) xs
count_mapped p f xs = fold-map (λ (n : ℕ) y. n + cond (p y) 1 0) f 0 xs

lapsed_count_same : (now : ℕ) (s : State) (k : ℕ) → option_map_or (lapsing_in lane.Durable now) (slice_get (durable s).plain k) 0 ≡ option_map_or (lapsing_in lane.Durable now) (slice_get s.plain k) 0
lapsed_count_same now s k = ap (λ o. option_map_or (lapsing_in lane.Durable now) o 0) (get_mapped durable_plain s.plain k) ∙ at (slice_get s.plain k)
  where
    at : (o : Option PlainLists) → option_map_or (lapsing_in lane.Durable now) (option_map durable_plain o) 0 ≡ option_map_or (lapsing_in lane.Durable now) o 0
    at None = refl
    at (Some p) = count_mapped (lapses now) (λ (o : Outgoing). unsent o.message) p.recoverable

peer_lapsed_both : (now k : ℕ) (e : Effect) → Holds e.state
    → (peer_lapsed lane.Durable now k (durable_effect e) ≡ durable_effect (peer_lapsed lane.Durable now k e)) × Holds (peer_lapsed lane.Durable now k e).state
peer_lapsed_both now k e h = let count = option_map_or (lapsing_in lane.Durable now) (slice_get e.state.plain k) 0 in
    let both = repeated_same (next_lapsed lane.Durable now k) (λ x d. (next_lapsed_both now k x d).0) (λ x d. (next_lapsed_both now k x d).1) count e h in
    (ap (λ n. repeated n (next_lapsed lane.Durable now k) (durable_effect e)) (lapsed_count_same now e.state k) ∙ both.0, both.1)

-- Queues.

swept_one : (now k index : ℕ) (e : Effect) (o : Option Message) → IfSome o IsDurable → Holds e.state
    → (option_map_or (λ m. joined (durable_effect e) (message_swept lane.Durable now (k + 1) index (durable e.state) m)) o (durable_effect e)
    ≡ durable_effect (option_map_or (λ m. joined e (message_swept lane.Durable now (k + 1) index e.state m)) o e))
    × Holds (option_map_or (λ m. joined e (message_swept lane.Durable now (k + 1) index e.state m)) o e).state
swept_one now k index e None d h = (refl, h)
swept_one now k index e (Some m) d h = (
  ap (λ u. joined (durable_effect e) (with_line (line.Swept m.id) u))
      (ap (λ u. meets u m RECEIVE_TIMEOUT now) (without_same e.state (place.Queue (k + 1)) index) ∙ meets_same (without_at lane.Durable e.state (place.Queue (k + 1)) index) m RECEIVE_TIMEOUT now d),
  meets_holds (without_at lane.Durable e.state (place.Queue (k + 1)) index) m RECEIVE_TIMEOUT now d (without_holds e.state (place.Queue (k + 1)) index h),
)

swept_at : (now k : ℕ) (e : Effect) (q : Queue) → QueueHolds q → (o : Option ℕ) → Holds e.state
    → (option_map_or (λ index. option_map_or (λ m. joined (durable_effect e) (message_swept lane.Durable now (k + 1) index (durable e.state) m)) (slice_get q.lists.durable index) (durable_effect e)) o (durable_effect e)
    ≡ durable_effect (option_map_or (λ index. option_map_or (λ m. joined e (message_swept lane.Durable now (k + 1) index e.state m)) (slice_get q.lists.durable index) e) o e))
    × Holds (option_map_or (λ index. option_map_or (λ m. joined e (message_swept lane.Durable now (k + 1) index e.state m)) (slice_get q.lists.durable index) e) o e).state
swept_at now k e q d None h = (refl, h)
swept_at now k e q d (Some index) h = swept_one now k index e (slice_get q.lists.durable index) (item_holds IsDurable q.lists.durable index d.0) h

swept_in : (now k : ℕ) (e : Effect) (o : Option Queue) → IfSome o QueueHolds → Holds e.state
    → (option_map_or (λ q. option_map_or (λ index. option_map_or (λ m. joined (durable_effect e) (message_swept lane.Durable now (k + 1) index (durable e.state) m)) (slice_get q.lists.durable index) (durable_effect e)) (sweeping lane.Durable now q) (durable_effect e)) (option_map durable_queue o) (durable_effect e)
    ≡ durable_effect (option_map_or (λ q. option_map_or (λ index. option_map_or (λ m. joined e (message_swept lane.Durable now (k + 1) index e.state m)) (slice_get q.lists.durable index) e) (sweeping lane.Durable now q) e) o e))
    × Holds (option_map_or (λ q. option_map_or (λ index. option_map_or (λ m. joined e (message_swept lane.Durable now (k + 1) index e.state m)) (slice_get q.lists.durable index) e) (sweeping lane.Durable now q) e) o e).state
swept_in now k e None d h = (refl, h)
swept_in now k e (Some q) d h = swept_at now k e q d (sweeping lane.Durable now q) h

next_swept_both : (now k : ℕ) (e : Effect) → Holds e.state
    → (next_swept lane.Durable now k (durable_effect e) ≡ durable_effect (next_swept lane.Durable now k e)) × Holds (next_swept lane.Durable now k e).state
next_swept_both now k e h = let both = swept_in now k e (slice_get e.state.places.queues k) (get_holds QueueHolds e.state.places.queues k h.queues) h in (
  ap (λ o. option_map_or (λ q. option_map_or (λ index. option_map_or (λ m. joined (durable_effect e) (message_swept lane.Durable now (k + 1) index (durable e.state) m)) (slice_get q.lists.durable index) (durable_effect e)) (sweeping lane.Durable now q) (durable_effect e)) o (durable_effect e))
      (get_mapped durable_queue e.state.places.queues k) ∙ both.0,
  both.1,
)

swept_count_same : (now : ℕ) (s : State) (k : ℕ) → option_map_or (sweeping_in lane.Durable now) (slice_get (durable s).places.queues k) 0 ≡ option_map_or (sweeping_in lane.Durable now) (slice_get s.places.queues k) 0
swept_count_same now s k = ap (λ o. option_map_or (sweeping_in lane.Durable now) o 0) (get_mapped durable_queue s.places.queues k) ∙ at (slice_get s.places.queues k)
  where
    at : (o : Option Queue) → option_map_or (sweeping_in lane.Durable now) (option_map durable_queue o) 0 ≡ option_map_or (sweeping_in lane.Durable now) o 0
    at None = refl
    at (Some q) = refl

queue_swept_both : (now k : ℕ) (e : Effect) → Holds e.state
    → (queue_swept lane.Durable now k (durable_effect e) ≡ durable_effect (queue_swept lane.Durable now k e)) × Holds (queue_swept lane.Durable now k e).state
queue_swept_both now k e h = let count = option_map_or (sweeping_in lane.Durable now) (slice_get e.state.places.queues k) 0 in
    let both = repeated_same (next_swept lane.Durable now k) (λ x d. (next_swept_both now k x d).0) (λ x d. (next_swept_both now k x d).1) count e h in
    (ap (λ n. repeated n (next_swept lane.Durable now k) (durable_effect e)) (swept_count_same now e.state k) ∙ both.0, both.1)

-- The whole tick.

lane_ticked_same : (now : ℕ) (e : Effect) → Holds e.state → lane_ticked lane.Durable now (durable_effect e) ≡ durable_effect (lane_ticked lane.Durable now e)
lane_ticked_same now e h =
    let lapsed = each_same (peer_lapsed lane.Durable now) (λ k x d. (peer_lapsed_both now k x d).0) (λ k x d. (peer_lapsed_both now k x d).1) (length e.state.plain) e h in
    let after = for_each_below (length e.state.plain) (peer_lapsed lane.Durable now) e in
    let swept = each_same (queue_swept lane.Durable now) (λ k x d. (queue_swept_both now k x d).0) (λ k x d. (queue_swept_both now k x d).1) (length e.state.places.queues) after lapsed.1 in
    ap (λ n. for_each_below n (queue_swept lane.Durable now) (for_each_below (length (durable e.state).plain) (peer_lapsed lane.Durable now) (durable_effect e))) (length-map e.state.places.queues durable_queue)
    ∙ ap (λ n. for_each_below (length e.state.places.queues) (queue_swept lane.Durable now) (for_each_below n (peer_lapsed lane.Durable now) (durable_effect e))) (length-map e.state.plain durable_plain)
    ∙ ap (λ u. for_each_below (length e.state.places.queues) (queue_swept lane.Durable now) u) lapsed.0 ∙ swept.0

pub ticked_same : (now : ℕ) (e : Effect) → Holds e.state
    → lane_ticked lane.Durable now (rows_expired now (durable_effect e)) ≡ durable_effect (lane_ticked lane.Durable now (rows_expired now e))
ticked_same now e h = let expired = rows_expired_both now e h in
    ap (λ u. lane_ticked lane.Durable now u) expired.0 ∙ lane_ticked_same now (rows_expired now e) expired.1

pub leaving_is_durable : LeavingIsDurable
leaving_is_durable = record {
  takes = λ at id now s v. taken_same at id now (begun s) (valid_holds s v);
  purges = λ at now s v. purged_same at now (begun s) (valid_holds s v);
  ticks = λ now s v. ticked_same now (begun s) (valid_holds s v);
}
