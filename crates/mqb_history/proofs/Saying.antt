-- Which messages the lines of a record name: those that it sends, what arrived, and what it takes out of journals and dead-letter queues.
use Rattle.std.proofs.Common.{refl, sym, subst}
use Rattle.std.specs.List.{AllByRecursion}
use Rattle.std.specs.Option.{option_map_or}
use Rattle.std.specs.Prelude.{[], ◌+◌, ◌∷◌, ◌≡◌, Bool, List, None, Option, Some, cond, false, fold, length, slice_get, suc, true, zero, ℕ}
use Rattle.mqb_base.specs.declared.class.Class.{Class}
use Rattle.mqb_base.specs.declared.heads.TxHead.{TxHead}
use Rattle.mqb_base.specs.declared.ids.MessageId.{MessageId}
use Rattle.mqb_base.specs.declared.ledger.Line.{Line}
use Rattle.mqb_base.specs.declared.ledger.Line.TheVariants as line
use Rattle.mqb_base.specs.declared.message.Lane.TheVariants as lane
use Rattle.mqb_base.specs.declared.message.Message.{Message}
use Rattle.mqb_base.specs.declared.queues.EntryPlace.{EntryPlace}
use Rattle.mqb_base.specs.declared.queues.EntryPlace.TheVariants as place
use Rattle.mqb_model.specs.Loops.{for_each_below, repeated}
use Rattle.mqb_model.specs.declared.target.Target.{Target}
use Rattle.mqb_model.specs.declared.target.Target.TheVariants.{AtPeer, Here, Nowhere}
use Rattle.mqb_model.specs.records.Applying.{lines_of}
use Rattle.mqb_model.specs.records.Arrived.{part_made}
use Rattle.mqb_model.specs.records.Commit.{op_taken, send_made, sends_numbered, sends_of, takes_made}
use Rattle.mqb_model.specs.records.Decisions.{decided_line, message_decided, stored_line}
use Rattle.mqb_model.specs.records.Record.{Part, Record, RecordOp}
use Rattle.mqb_model.specs.records.Record as entry
use Rattle.mqb_model.specs.records.Releases.{message_released, releases_made}
use Rattle.mqb_model.specs.rules.Arrivals.{refusal_of, storing_refusal}
use Rattle.mqb_model.specs.rules.Effects.{Effect, begun, joined}
use Rattle.mqb_model.specs.rules.Numbers.{own_id}
use Rattle.mqb_model.specs.rules.Purges.{count_at, message_purged, oldest_purged, purge_line, purged}
use Rattle.mqb_model.specs.rules.Sends.{committed_line, committed_to, journalled}
use Rattle.mqb_model.specs.rules.Sequences.{sequence_for}
use Rattle.mqb_model.specs.rules.Takes.{message_at, message_taken, take_line, taken, taken_at}
use Rattle.mqb_model.specs.rules.Timeouts.{expiring, expiring_in, lane_ticked, lapsing, lapsing_in, message_expired, message_lapsed, message_swept, next_expired, next_lapsed, next_swept, peer_lapsed, queue_swept, row_expired, rows_expired, sweeping, sweeping_in}
use Rattle.mqb_model.specs.state.Resolving.{is_here, resolved}
use Rattle.mqb_model.specs.state.Rows.{stream_of}
use Rattle.mqb_model.specs.state.State.{State}
use Rattle.mqb_orders.specs.Rows.{Row}
use Rattle.mqb_plain.specs.Plain.{PlainLists, outgoing_in}
use Rattle.mqb_plain.specs.declared.outgoing.Outgoing.{Outgoing}
use Rattle.mqb_queue.specs.First.{index_named, is_queue}
use Rattle.mqb_queue.specs.Lists.{messages_in}
use Rattle.mqb_queue.specs.Places.{Queue}
use Rattle.mqb_history.proofs.Lists.{all_append, clash}

-- What may be said of the messages that a record sends, decides, stores, lets expire, and takes from a place that is no queue.
pub record Sayings : Type 1 where
  pub Sends : MessageId → Type 0
  pub Decides : MessageId → Type 0
  pub Stores : MessageId → Type 0
  pub Expires : MessageId → Type 0
  pub Empties : MessageId → Type 0

abbrev pub Says : Sayings → Line → Type 0
Says y (line.Committed stream number id) = y.Sends id
Says y (line.Local id) = y.Sends id
Says y (line.Put stream number id) = y.Decides id
Says y (line.Refused stream number class id) = y.Decides id
Says y (line.Stored id) = y.Stores id
Says y (line.Bounced class id) = y.Stores id
Says y (line.Expired stream number id moment) = y.Expires id
Says y (line.Emptied id) = y.Empties id
Says y _ = Unit {0}

module _ (y : Sayings) where
  abbrev AllSay : Effect → Type 0
  AllSay e = AllByRecursion (Says y) e.lines

  one_says : (e next : Effect) (l : Line) → next.lines ≡ l ∷ [] → Says y l → AllSay e → AllSay (joined e next)
  one_says e next l same says h = all_append (Says y) e.lines next.lines h (subst (AllByRecursion (Says y)) (sym same) (says, tt))

  or_says : {X : Type 0} (e : Effect) (f : X → Effect) (o : Option X) → AllSay e → ((x : X) → AllSay (f x)) → AllSay (option_map_or f o e)
  or_says e f None none some = none
  or_says e f (Some x) none some = some x

  -- where a place is no queue, it may be said of what leaves it
  abbrev MayEmpty : EntryPlace → Type 0
  MayEmpty at = is_queue at ≡ false → (id : MessageId) → y.Empties id

  leaves_says : (at : EntryPlace) (k : Line) (id : MessageId) → Says y k → MayEmpty at → Says y (cond (is_queue at) k (line.Emptied id))
  leaves_says at k id says empty = by (is_queue at) refl
    where
      by : (b : Bool) → is_queue at ≡ b → Says y (cond b k (line.Emptied id))
      by true e = says
      by false e = empty e id

  repeated_say : (step : Effect → Effect) → ((e : Effect) → AllSay e → AllSay (step e)) → (n : ℕ) (e : Effect) → AllSay e → AllSay (repeated n step e)
  repeated_say step keeps zero e h = h
  repeated_say step keeps (suc n) e h = keeps (repeated n step e) (repeated_say step keeps n e h)

  each_say : (step : ℕ → Effect → Effect) → ((k : ℕ) (e : Effect) → AllSay e → AllSay (step k e)) → (n : ℕ) (e : Effect) → AllSay e → AllSay (for_each_below n step e)
  each_say step keeps zero e h = h
  each_say step keeps (suc n) e h = keeps n (for_each_below n step e) (each_say step keeps n e h)

  taken_say : (at : EntryPlace) (id : MessageId) (now : ℕ) (e : Effect) → MayEmpty at → AllSay e → AllSay (taken at id now e)
  taken_say at id now e empty h = or_says e (λ k. taken_at lane.Durable at k now e) (index_named e.state.places at id now) h
      (λ k. or_says e (λ m. joined e (message_taken lane.Durable at k now e.state m)) (message_at lane.Durable e.state at k) h
      (λ m. one_says e (message_taken lane.Durable at k now e.state m) (take_line at m) refl (leaves_says at (line.Took m.id) m.id tt empty) h))

  purged_say : (at : EntryPlace) (now : ℕ) (e : Effect) → MayEmpty at → AllSay e → AllSay (purged lane.Durable at now e)
  purged_say at now e empty h = repeated_say (oldest_purged lane.Durable at now)
      (λ d g. or_says d (λ m. joined d (message_purged lane.Durable at now d.state m)) (message_at lane.Durable d.state at 0) g
      (λ m. one_says d (message_purged lane.Durable at now d.state m) (purge_line at m) refl (leaves_says at (line.Purged m.id) m.id tt empty) g)) (count_at lane.Durable e.state at) e h

  lapsed_say : (now k : ℕ) (e : Effect) → AllSay e → AllSay (next_lapsed lane.Durable now k e)
  lapsed_say now k e h = or_says e (λ (p : PlainLists). option_map_or (λ index.
      option_map_or (λ (o : Outgoing). joined e (message_lapsed lane.Durable now k index e.state o.message)) (slice_get (outgoing_in lane.Durable p) index) e)
      (lapsing lane.Durable now p) e) (slice_get e.state.plain k) h
      (λ p. or_says e (λ index. option_map_or (λ (o : Outgoing). joined e (message_lapsed lane.Durable now k index e.state o.message)) (slice_get (outgoing_in lane.Durable p) index) e) (lapsing lane.Durable now p) h
      (λ index. or_says e (λ (o : Outgoing). joined e (message_lapsed lane.Durable now k index e.state o.message)) (slice_get (outgoing_in lane.Durable p) index) h
      (λ o. one_says e (message_lapsed lane.Durable now k index e.state o.message) (line.Lapsed o.message.id) refl tt h)))

  swept_say : (now k : ℕ) (e : Effect) → AllSay e → AllSay (next_swept lane.Durable now k e)
  swept_say now k e h = or_says e (λ (q : Queue). option_map_or (λ index.
      option_map_or (λ m. joined e (message_swept lane.Durable now (k + 1) index e.state m)) (slice_get (messages_in lane.Durable q.lists) index) e)
      (sweeping lane.Durable now q) e) (slice_get e.state.places.queues k) h
      (λ q. or_says e (λ index. option_map_or (λ m. joined e (message_swept lane.Durable now (k + 1) index e.state m)) (slice_get (messages_in lane.Durable q.lists) index) e) (sweeping lane.Durable now q) h
      (λ index. or_says e (λ m. joined e (message_swept lane.Durable now (k + 1) index e.state m)) (slice_get (messages_in lane.Durable q.lists) index) h
      (λ m. one_says e (message_swept lane.Durable now (k + 1) index e.state m) (line.Swept m.id) refl tt h)))

  expired_say : ((id : MessageId) → y.Expires id) → (now k : ℕ) (e : Effect) → AllSay e → AllSay (next_expired now k e)
  expired_say expire now k e h = or_says e (λ (row : Row). option_map_or (λ kept. joined e (message_expired now k e.state row kept)) (expiring now row) e) (slice_get e.state.outs k) h
      (λ row. or_says e (λ kept. joined e (message_expired now k e.state row kept)) (expiring now row) h
      (λ kept. one_says e (message_expired now k e.state row kept) (line.Expired (stream_of e.state row) kept.number kept.message.id now) refl (expire kept.message.id) h))

  ticked_say : ((id : MessageId) → y.Expires id) → (now : ℕ) (e : Effect) → AllSay e → AllSay (lane_ticked lane.Durable now (rows_expired now e))
  ticked_say expire now e h = each_say (queue_swept lane.Durable now)
      (λ k d g. repeated_say (next_swept lane.Durable now k) (swept_say now k) (option_map_or (sweeping_in lane.Durable now) (slice_get d.state.places.queues k) 0) d g)
      (length first.state.places.queues) (for_each_below (length first.state.plain) (peer_lapsed lane.Durable now) first)
      (each_say (peer_lapsed lane.Durable now)
      (λ k d g. repeated_say (next_lapsed lane.Durable now k) (lapsed_say now k) (option_map_or (lapsing_in lane.Durable now) (slice_get d.state.plain k) 0) d g) (length first.state.plain) first
      (each_say (row_expired now) (λ k d g. repeated_say (next_expired now k) (expired_say expire now k) (option_map_or (expiring_in now) (slice_get d.state.outs k) 0) d g) (length e.state.outs) e h))
    where
      first : Effect
      first = rows_expired now e

  releases_say : (e : Effect) (numbers : List ℕ) → AllSay e → AllSay (fold message_released e numbers)
  releases_say e [] h = h
  releases_say e (n ∷ ns) h = releases_say (message_released e n) ns (all_append (Says y) e.lines (line.Released (own_id e.state n) ∷ []) h (tt, tt))

  ops_say : (now : ℕ) (e : Effect) (ops : List RecordOp) → AllSay e → AllSay (fold (op_taken now) e ops)
  ops_say now e [] h = h
  ops_say now e (entry.Send p ∷ ops) h = ops_say now e ops h
  ops_say now e (entry.Take queue id ∷ ops) h = ops_say now (taken (place.Queue queue) id now e) ops (taken_say (place.Queue queue) id now e (λ none. absurd (clash none)) h)

  sends_say : (now : ℕ) (e : Effect) (ms : List Message) → AllByRecursion (λ m. y.Sends m.id) ms → AllSay e → AllSay (fold (send_made now) e ms)
  sends_say now e [] sends h = h
  sends_say now e (m ∷ ms) sends h = sends_say now (send_made now e m) ms sends.1 (at (resolved e.state m.destination))
    where
      at : (t : Target) → AllSay (joined e (committed_to now (journalled e.state m) t m))
      at (AtPeer k) = one_says e (committed_to now (journalled e.state m) (AtPeer k) m) (committed_line (journalled e.state m) (sequence_for (journalled e.state m) k m.destination now) m) refl sends.0 h
      at (Here queue) = one_says e (committed_to now (journalled e.state m) (Here queue) m) (line.Local m.id) refl sends.0 h
      at Nowhere = one_says e (committed_to now (journalled e.state m) Nowhere m) (line.Local m.id) refl sends.0 h

  decided_says : (m : Message) (tx : TxHead) (o : Option Class) → y.Decides m.id → Says y (decided_line m tx o)
  decided_says m tx None h = h
  decided_says m tx (Some class) h = h

  stored_says : (m : Message) (o : Option Class) → y.Stores m.id → Says y (stored_line m o)
  stored_says m None h = h
  stored_says m (Some class) h = h

  -- what may be said of a part
  abbrev PartSays : Part → Type 0
  PartSays (entry.Decided p) = y.Decides p.message.id
  PartSays (entry.Stored p) = y.Stores p.message.id
  PartSays (entry.Final p) = y.Stores p.message.id
  PartSays _ = Unit {0}

  part_says : (now : ℕ) (e : Effect) (part : Part) → PartSays part → AllSay e → AllSay (part_made now e part)
  part_says now e entry.Nothing says h = h
  part_says now e (entry.Decided p) says h = or_says e (λ tx. joined e (message_decided now e.state p tx)) p.tx h
      (λ tx. one_says e (message_decided now e.state p tx) (decided_line p.message tx (refusal_of e.state p)) refl (decided_says p.message tx (refusal_of e.state p) says) h)
  part_says now e (entry.Stored p) says h = all_append (Says y) e.lines (stored_line p.message (storing_refusal e.state p) ∷ []) h (stored_says p.message (storing_refusal e.state p) says, tt)
  part_says now e (entry.OrderAcknowledged ordinal number) says h = h
  part_says now e (entry.Final p) says h = all_append (Says y) e.lines (line.Stored p.message.id ∷ []) h (says, tt)

  -- and of a record
  abbrev pub RecordSays : Record → Type 0
  RecordSays (entry.Commit now ops) = AllByRecursion (λ m. y.Sends m.id) (sends_of ops)
  RecordSays (entry.Plain now p) = y.Sends p.message.id
  RecordSays (entry.Arrived now numbers part) = PartSays part
  RecordSays (entry.Taken now at id) = MayEmpty at
  RecordSays (entry.Purged now at) = MayEmpty at
  RecordSays (entry.Ticked now) = (id : MessageId) → y.Expires id
  RecordSays _ = Unit {0}

  pub record_says : (s : State) (r : Record) → RecordSays r → AllByRecursion (Says y) (lines_of s r)
  record_says s (entry.Commit now ops) h = sends_say now (takes_made s now ops) (sends_of ops) h (ops_say now (sends_numbered s ops) ops tt)
  record_says s (entry.Plain now p) h = at (is_here (resolved s p.message.destination))
    where
      at : (b : Bool) → AllByRecursion (Says y) (cond b (line.Local p.message.id ∷ []) [])
      at true = (h, tt)
      at false = tt
  record_says s (entry.Arrived now numbers part) h = part_says now (releases_made s numbers) part h (releases_say (begun s) numbers tt)
  record_says s (entry.Taken now at id) h = taken_say at id now (begun s) h tt
  record_says s (entry.Purged now at) h = purged_say at now (begun s) h tt
  record_says s (entry.Ticked now) h = ticked_say h now (begun s) tt
  record_says s r h = tt

  -- the takes of a transaction say nothing
  pub takes_say : (s : State) (now : ℕ) (ops : List RecordOp) → AllByRecursion (Says y) (takes_made s now ops).lines
  takes_say s now ops = ops_say now (sends_numbered s ops) ops tt
