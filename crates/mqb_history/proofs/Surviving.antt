-- What stays where nothing leaves, and where a message leaves its queue and meets a class, is there behind each record, and beside it.
use Rattle.std.proofs.Common.{refl, ap, ◌∙◌, arith}
use Rattle.std.specs.Option.{option_map_or}
use Rattle.std.specs.Prelude.{[], ◌+◌, ◌==◌, ◌∷◌, ◌≡◌, ◌≤◌, Bool, List, None, Option, Some, cond, false, fold, length, option_and_then, option_map, slice_get, suc, true, ℕ}
use Rattle.mqb_base.specs.Classes.{is_negative}
use Rattle.mqb_base.specs.declared.class.Class.{Class}
use Rattle.mqb_base.specs.declared.class.TheConstants.Class.{QUEUE_PURGED, REACHED_QUEUE, REACH_TIMEOUT, RECEIVED, RECEIVE_TIMEOUT}
use Rattle.mqb_base.specs.declared.heads.TxHead.{TxHead}
use Rattle.mqb_base.specs.declared.ids.MessageId.{MessageId}
use Rattle.mqb_base.specs.declared.message.Delivery.TheVariants as delivery
use Rattle.mqb_base.specs.declared.message.Lane.{Lane}
use Rattle.mqb_base.specs.declared.message.Lane.TheVariants as lane
use Rattle.mqb_base.specs.declared.message.Message.{Message}
use Rattle.mqb_base.specs.declared.queues.EntryPlace.{EntryPlace}
use Rattle.mqb_base.specs.declared.queues.EntryPlace.TheVariants as place
use Rattle.mqb_entries.specs.declared.members.Mark.{Mark}
use Rattle.mqb_fate.specs.Orders.{is_final_class}
use Rattle.mqb_model.specs.Loops.{for_each_below}
use Rattle.mqb_model.specs.declared.target.Target.{Target}
use Rattle.mqb_model.specs.declared.target.Target.TheVariants.{AtPeer, Here, Nowhere}
use Rattle.mqb_model.specs.managers.Beside.{Beside, beside_done, express_sent, without_acked}
use Rattle.mqb_model.specs.managers.Beside as beside
use Rattle.mqb_model.specs.records.Applying.{apply}
use Rattle.mqb_model.specs.records.Arrived.{part_made}
use Rattle.mqb_model.specs.records.Commit.{op_taken, send_made, sends_numbered, sends_of, takes_made}
use Rattle.mqb_model.specs.records.Decisions.{message_decided, with_decided}
use Rattle.mqb_model.specs.records.Finals.{dead_for, finished_at, finished_by, index_finished, kept_named, with_finished}
use Rattle.mqb_model.specs.records.Offered.{mark_raised}
use Rattle.mqb_model.specs.records.Record.{Part, Record, RecordOp}
use Rattle.mqb_model.specs.records.Record as entry
use Rattle.mqb_model.specs.records.Releases.{releases_made}
use Rattle.mqb_model.specs.rules.Arrivals.{refusal_of, storing_refusal}
use Rattle.mqb_model.specs.rules.Effects.{Effect, begun, joined}
use Rattle.mqb_model.specs.rules.Notices.{arrived, meets}
use Rattle.mqb_model.specs.rules.Numbers.{number_taken, numbers_taken}
use Rattle.mqb_model.specs.rules.Purges.{count_at, message_purged, oldest_purged, purged}
use Rattle.mqb_model.specs.rules.Sends.{committed_to, journalled}
use Rattle.mqb_model.specs.rules.Sequences.{join, new_sequence, sequence_in_use, with_kept, with_sequence}
use Rattle.mqb_model.specs.rules.Takes.{copied, message_at, message_taken, taken, taken_at}
use Rattle.mqb_model.specs.rules.Timeouts.{expiring, expiring_in, lane_ticked, lapsing, lapsing_in, message_expired, message_lapsed, message_swept, next_expired, next_lapsed, next_swept, peer_lapsed, queue_swept, row_expired, rows_expired, sweeping, sweeping_in, with_expired}
use Rattle.mqb_model.specs.state.Places.{put_at, with_plain, without_at}
use Rattle.mqb_model.specs.state.Resolving.{peer_known, resolved}
use Rattle.mqb_model.specs.state.Rows.{with_row}
use Rattle.mqb_model.specs.state.State.{State}
use Rattle.mqb_orders.specs.Rows.{Row}
use Rattle.mqb_orders.specs.declared.kept.Kept.{Kept}
use Rattle.mqb_plain.specs.Plain.{PlainLists, outgoing_in, without}
use Rattle.mqb_plain.specs.declared.outgoing.Outgoing.{Outgoing}
use Rattle.mqb_queue.specs.First.{index_named}
use Rattle.mqb_queue.specs.Lists.{Lists, messages_in}
use Rattle.mqb_queue.specs.Places.{Queue, new_queue, numbered}
use Rattle.mqb_history.specs.Made.{IsMade}
use Rattle.mqb_history.proofs.Carrying.{numbered_suc}
use Rattle.mqb_history.proofs.Committing.{in_append}
use Rattle.mqb_history.proofs.Enduring.{Endures, acked_endures, all_noted_endures, arrived_endures, aside_endures, copied_endures, delivered_endures, endures, endures_or, endures_then, express_endures, express_plain_endures, journalled_endures, meets_endures, number_endures, plain_sent_endures, put_endures, same_endures, unmarks_endure}
use Rattle.mqb_history.proofs.Walks.{each_walks, repeated_walks}

-- a class that a message meets where it leaves its queue, or where it is refused
abbrev pub IsOfEnds : Class → Type 0
IsOfEnds class = (is_final_class class ≡ true) × ((class.0 == REACHED_QUEUE.0) ≡ false)

-- It is kept where what stands and waits stays, where a message of a lane leaves its queue and meets such a class, and where one lapses.
pub record Survives (kind : Lane) (P : State → Type 0) : Type 0 where
  pub on : (a b : State) → Endures a b → P a → P b
  pub leaves : (s t : State) (n k : ℕ) (m : Message) (class : Class) (now : ℕ) → message_at kind s (place.Queue n) k ≡ Some m → IsOfEnds class → Endures (without_at kind s (place.Queue n) k) t
      → P s → P (meets t m class now)
  pub lapses : (s : State) (j index now : ℕ) (p : PlainLists) → slice_get s.plain j ≡ Some p → lapsing kind now p ≡ Some index → P s → P (with_plain (without kind index) s j)

module _ (kind : Lane) (P : State → Type 0) (v : Survives kind P) where
  abbrev Of : Effect → Type 0
  Of e = P e.state

  of_or : {X : Type 0} (e : Effect) (f : X → Effect) (o : Option X) → Of e → ((x : X) → o ≡ Some x → Of (f x)) → Of (option_map_or f o e)
  of_or e f None none some = none
  of_or e f (Some x) none some = some x refl

  pub taken_at_survives : (at : EntryPlace) (k now : ℕ) (e : Effect) → Of e → Of (taken_at kind at k now e)
  taken_at_survives (place.Queue n) k now e h = of_or e (λ m. joined e (message_taken kind (place.Queue n) k now e.state m)) (message_at kind e.state (place.Queue n) k) h
      (λ m there. let out = without_at kind e.state (place.Queue n) k in v.leaves e.state (copied out n m) n k m RECEIVED now there (refl, refl) (copied_endures out n m) h)
  taken_at_survives at k now e h = of_or e (λ m. joined e (message_taken kind at k now e.state m)) (message_at kind e.state at k) h
      (λ m there. v.on e.state (without_at kind e.state at k) (aside_endures kind e.state at k refl) h)

  oldest_survives : (at : EntryPlace) (now : ℕ) (e : Effect) → Of e → Of (oldest_purged kind at now e)
  oldest_survives (place.Queue n) now e h = of_or e (λ m. joined e (message_purged kind (place.Queue n) now e.state m)) (message_at kind e.state (place.Queue n) 0) h
      (λ m there. let out = without_at kind e.state (place.Queue n) 0 in v.leaves e.state out n 0 m QUEUE_PURGED now there (refl, refl) (endures out) h)
  oldest_survives at now e h = of_or e (λ m. joined e (message_purged kind at now e.state m)) (message_at kind e.state at 0) h
      (λ m there. v.on e.state (without_at kind e.state at 0) (aside_endures kind e.state at 0 refl) h)

  pub purged_survives : (at : EntryPlace) (now : ℕ) (e : Effect) → Of e → Of (purged kind at now e)
  purged_survives at now e h = repeated_walks Of (oldest_purged kind at now) (oldest_survives at now) (count_at kind e.state at) e h

  -- Ticks.

  lapsed_survives : (now k : ℕ) (e : Effect) → Of e → Of (next_lapsed kind now k e)
  lapsed_survives now k e h = of_or e (λ (p : PlainLists). option_map_or (λ index.
      option_map_or (λ (o : Outgoing). joined e (message_lapsed kind now k index e.state o.message)) (slice_get (outgoing_in kind p) index) e)
      (lapsing kind now p) e) (slice_get e.state.plain k) h
      (λ p a. of_or e (λ index. option_map_or (λ (o : Outgoing). joined e (message_lapsed kind now k index e.state o.message)) (slice_get (outgoing_in kind p) index) e) (lapsing kind now p) h
      (λ index b. of_or e (λ (o : Outgoing). joined e (message_lapsed kind now k index e.state o.message)) (slice_get (outgoing_in kind p) index) h
      (λ o c. let out = with_plain (without kind index) e.state k in v.on out (meets out o.message REACH_TIMEOUT now) (meets_endures out o.message REACH_TIMEOUT now) (v.lapses e.state k index now p a b h))))

  swept_survives : (now k : ℕ) (e : Effect) → Of e → Of (next_swept kind now k e)
  swept_survives now k e h = of_or e (λ (q : Queue). option_map_or (λ index.
      option_map_or (λ m. joined e (message_swept kind now (k + 1) index e.state m)) (slice_get (messages_in kind q.lists) index) e)
      (sweeping kind now q) e) (slice_get e.state.places.queues k) h
      (λ q a. of_or e (λ index. option_map_or (λ m. joined e (message_swept kind now (k + 1) index e.state m)) (slice_get (messages_in kind q.lists) index) e) (sweeping kind now q) h
      (λ index b. of_or e (λ m. joined e (message_swept kind now (k + 1) index e.state m)) (slice_get (messages_in kind q.lists) index) h
      (λ m c. let out = without_at kind e.state (place.Queue (k + 1)) index in v.leaves e.state out (k + 1) index m RECEIVE_TIMEOUT now (there q index m a c) (refl, refl) (endures out) h)))
    where
      there : (q : Queue) (index : ℕ) (m : Message) → slice_get e.state.places.queues k ≡ Some q → slice_get (messages_in kind q.lists) index ≡ Some m → message_at kind e.state (place.Queue (k + 1)) index ≡ Some m
      there q index m a c = ap (λ o. option_and_then (λ (l : Lists). slice_get (messages_in kind l) index) (option_map (λ (q : Queue). q.lists) o)) (ap (numbered e.state.places.queues) next ∙ numbered_suc e.state.places.queues k ∙ a) ∙ c
        where
          next : k + 1 ≡ suc k
          next = omega arith

  pub ticked_survives : (now : ℕ) (e : Effect) → Of e → Of (lane_ticked kind now e)
  ticked_survives now e h = each_walks Of (queue_swept kind now)
      (λ k d g. repeated_walks Of (next_swept kind now k) (swept_survives now k) (option_map_or (sweeping_in kind now) (slice_get d.state.places.queues k) 0) d g)
      (length e.state.places.queues) (for_each_below (length e.state.plain) (peer_lapsed kind now) e)
      (each_walks Of (peer_lapsed kind now)
      (λ k d g. repeated_walks Of (next_lapsed kind now k) (lapsed_survives now k) (option_map_or (lapsing_in kind now) (slice_get d.state.plain k) 0) d g) (length e.state.plain) e h)

-- What is done beside a record lets nothing durable leave.

express_survives : (s : State) → Survives lane.Express (Endures s)
express_survives s = record {
  on = λ a b f g. endures_then s a b g f;
  leaves = λ a t n k m class now there of f g. let out = without_at lane.Express a (place.Queue n) k in
      endures_then s t (meets t m class now) (endures_then s out t (endures_then s a out g (express_endures a (place.Queue n) k)) f) (meets_endures t m class now);
  lapses = λ a j index now p there of g. endures_then s a (with_plain (without lane.Express index) a j) g (express_plain_endures a j index);
}

pub beside_endures : (b : Beside) (s : State) → Endures s (beside_done b s)
beside_endures beside.Nothing s = endures s
beside_endures (beside.SendsExpress now m) s = let t = number_taken s delivery.Express in endures_then s t (express_sent s m now) (number_endures s delivery.Express) (plain_sent_endures t m now)
beside_endures (beside.TakesExpress now at index) s = taken_at_survives lane.Express (Endures s) (express_survives s) at index now (begun s) (endures s)
beside_endures (beside.PurgesExpress now at) s = purged_survives lane.Express (Endures s) (express_survives s) at now (begun s) (endures s)
beside_endures (beside.TicksExpress now) s = ticked_survives lane.Express (Endures s) (express_survives s) now (begun s) (endures s)
beside_endures beside.Unmarks s = unmarks_endure s
beside_endures (beside.DropsExpress peer number) s = acked_endures number s peer
beside_endures (beside.HearsExpress peer number now m refusal) s = let t = with_plain (without_acked number) s peer in endures_then s t (arrived t m now refusal) (acked_endures number s peer) (arrived_endures t m now refusal)
beside_endures (beside.NotesSent peer sent) s = all_noted_endures peer s sent

-- Records.

same_places : (s t : State) → t.identity ≡ s.identity → t.peers ≡ s.peers → s.next_number ≤ t.next_number → t.places ≡ s.places → t.plain ≡ s.plain → Endures s t
same_places s t own peers le places plain = same_endures s t (record { identity = own; peers = peers }) le places plain

join_endures : (s : State) (peer now : ℕ) (m : Message) → Endures s (join s peer now m)
join_endures s peer now m = at (sequence_in_use s peer m.destination)
  where
    at : (o : Option Row) → Endures s (option_map_or (λ row. with_row (with_kept m) s row.sequence.ordinal) o (with_sequence s (with_kept m (new_sequence s peer m.destination now))))
    at None = same_places s _ refl refl (omega arith) refl refl
    at (Some row) = same_places s _ refl refl (omega arith) refl refl

to_endures : (now : ℕ) (s : State) (t : Target) (m : Message) → Endures s (committed_to now s t m).state
to_endures now s (AtPeer k) m = join_endures s k now m
to_endures now s (Here queue) m = delivered_endures s (Here queue) m now
to_endures now s Nowhere m = delivered_endures s Nowhere m now

final_endures : (s : State) (m : Message) → Endures s (option_map_or (λ peer. finished_by s peer m) (peer_known s m.id.qm) s)
final_endures s m = endures_or s (λ peer. finished_by s peer m) (peer_known s m.id.qm) (λ peer. endures_or s (finished_at s m) (index_finished s peer m)
    (λ index. endures_or s (λ k. dead_for m.class (with_finished m.correlation s index k) k.message) (option_and_then (kept_named m.correlation) (slice_get s.outs index)) (λ k. one index k (is_negative m.class.0))))
  where
    one : (index : ℕ) (k : Kept) (b : Bool) → Endures s (cond b (put_at (with_finished m.correlation s index k) place.DeadXact k.message) (with_finished m.correlation s index k))
    one index k true = let t = with_finished m.correlation s index k in
        endures_then s t (put_at t place.DeadXact k.message) (same_places s t refl refl (omega arith) refl refl) (put_endures t place.DeadXact k.message)
    one index k false = same_places s (with_finished m.correlation s index k) refl refl (omega arith) refl refl

-- a part that is made
pub part_endures : (now : ℕ) (e : Effect) (part : Part) → Endures e.state (part_made now e part).state
part_endures now e entry.Nothing = endures e.state
part_endures now e (entry.Decided p) = at p.tx
  where
    at : (o : Option TxHead) → Endures e.state (option_map_or (λ tx. joined e (message_decided now e.state p tx)) o e).state
    at None = endures e.state
    at (Some tx) = let t = with_decided e.state p.message tx in
        endures_then e.state t (arrived t p.message now (refusal_of e.state p)) (same_places e.state t refl refl (omega arith) refl refl) (arrived_endures t p.message now (refusal_of e.state p))
part_endures now e (entry.Stored p) = arrived_endures e.state p.message now (storing_refusal e.state p)
part_endures now e (entry.OrderAcknowledged ordinal number) = same_places e.state _ refl refl (omega arith) refl refl
part_endures now e (entry.Final p) = final_endures e.state p.message

module _ (P : State → Type 0) (v : Survives lane.Durable P) where
  taken_survives : (at : EntryPlace) (id : MessageId) (now : ℕ) (e : Effect) → P e.state → P (taken at id now e).state
  taken_survives at id now e h = of_or lane.Durable P v e (λ k. taken_at lane.Durable at k now e) (index_named e.state.places at id now) h (λ k there. taken_at_survives lane.Durable P v at k now e h)

  expired_survives : (now k : ℕ) (e : Effect) → P e.state → P (next_expired now k e).state
  expired_survives now k e h = of_or lane.Durable P v e (λ (row : Row). option_map_or (λ kept. joined e (message_expired now k e.state row kept)) (expiring now row) e) (slice_get e.state.outs k) h
      (λ row a. of_or lane.Durable P v e (λ kept. joined e (message_expired now k e.state row kept)) (expiring now row) h
      (λ kept b. let t = with_expired now e.state k in v.on e.state (meets t kept.message REACH_TIMEOUT now)
      (endures_then e.state t (meets t kept.message REACH_TIMEOUT now) (same_places e.state t refl refl (omega arith) refl refl) (meets_endures t kept.message REACH_TIMEOUT now)) h))

  expiring_survives : (now : ℕ) (e : Effect) → P e.state → P (rows_expired now e).state
  expiring_survives now e h = each_walks (λ d. P d.state) (row_expired now)
      (λ k d g. repeated_walks (λ d. P d.state) (next_expired now k) (expired_survives now k) (option_map_or (expiring_in now) (slice_get d.state.outs k) 0) d g) (length e.state.outs) e h

  ops_survive : (now : ℕ) (e : Effect) (ops : List RecordOp) → P e.state → P (fold (op_taken now) e ops).state
  ops_survive now e [] h = h
  ops_survive now e (entry.Send p ∷ ops) h = ops_survive now e ops h
  ops_survive now e (entry.Take queue id ∷ ops) h = ops_survive now (taken (place.Queue queue) id now e) ops (taken_survives (place.Queue queue) id now e h)

  sends_survive : (now : ℕ) (e : Effect) (ms : List Message) → P e.state → P (fold (send_made now) e ms).state
  sends_survive now e [] h = h
  sends_survive now e (m ∷ ms) h = let t = journalled e.state m in sends_survive now (send_made now e m) ms
      (v.on e.state (send_made now e m).state (endures_then e.state t (send_made now e m).state (journalled_endures e.state m) (to_endures now t (resolved e.state m.destination) m)) h)

  marks_survive : (s : State) (marks : List Mark) → P s → P (fold mark_raised s marks)
  marks_survive s [] h = h
  marks_survive s (mark ∷ marks) h = marks_survive (mark_raised s mark) marks (v.on s (mark_raised s mark) (same_places s (mark_raised s mark) refl refl (omega arith) refl refl) h)

  -- it is so behind the releases of a record
  abbrev pub Outlasts : State → Record → Type 0
  Outlasts s (entry.Arrived now numbers part) = P (releases_made s numbers).state
  Outlasts s r = P s

  pub record_survives : (s : State) (r : Record) → IsMade s r → Outlasts s r → P (apply s r)
  record_survives s (entry.Identity identity) made h = h
  record_survives s (entry.Peer peer) made h = absurd made
  record_survives s (entry.CreateQueue number plan) made h = v.on s (apply s (entry.CreateQueue number plan)) (record {
    manager = record { identity = refl; peers = refl };
    numbers = omega arith;
    lists = refl;
    stands = λ m g. (g.0, in_append s.places.queues (new_queue plan ∷ []) g.0 g.1, g.2);
    waits = λ k m g. g;
  }) h
  record_survives s (entry.Commit now ops) made h = let first = sends_numbered s ops in sends_survive now (takes_made s now ops) (sends_of ops)
      (ops_survive now first ops (v.on s first.state (same_places s first.state refl refl (omega arith) refl refl) h))
  record_survives s (entry.Plain now p) made h = let t = numbers_taken s 1 in
      v.on s (apply s (entry.Plain now p)) (endures_then s t (apply s (entry.Plain now p)) (same_places s t refl refl (omega arith) refl refl) (plain_sent_endures t p.message now)) h
  record_survives s (entry.Offered marks) made h = marks_survive s marks h
  record_survives s (entry.Arrived now numbers part) made h = v.on (releases_made s numbers).state (apply s (entry.Arrived now numbers part)) (part_endures now (releases_made s numbers) part) h
  record_survives s (entry.Taken now at id) made h = taken_survives at id now (begun s) h
  record_survives s (entry.Purged now at) made h = purged_survives lane.Durable P v at now (begun s) h
  record_survives s (entry.Ticked now) made h = ticked_survives lane.Durable P v now (rows_expired now (begun s)) (expiring_survives now (begun s) h)
  record_survives s (entry.Set setting) made h = v.on s (apply s (entry.Set setting)) (same_places s (apply s (entry.Set setting)) refl refl (omega arith) refl refl) h
